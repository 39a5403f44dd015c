use Rattle.std.proofs.Common.{◌≡◌, ◌+◌, length, get_or, sym, ap, ◌∙◌, ⊎_elim, arith}
use Rattle.std.specs.Option.{unwrap_or}
use Rattle.std.proofs.lemmas.Bool.{cases_lt}
use Rattle.std.proofs.lemmas.List.{get_or_default, get_or_past}
use Rattle.name_parts.specs.Outlines.{count_of}
use Rattle.name_parts.proofs.Holding.{held_count, held_start}
use Rattle.name_parts.proofs.Spelling.{end_is}
use Rattle.name_parts.proofs.name_parts.NameParts.end_of.Goals as goal

pub returns : goal.returns
returns c ps name =
    let self = c.args.self.now in
    let next = c.args.i + 1 in
    let size = length self.text.now in
    let starts = self.outline.starts.items in
    let found : c.unwrap_or.result ≡ get_or starts next size = c.unwrap_or.ensures ∙ ap (λ o. unwrap_or o size) c.copied.ensures ∙ c.get.ensures.lookup.4 (omega arith) size ∙ ap (λ l. get_or l next size) c.deref.ensures.0 in
    ⊎_elim
    (λ lt. found ∙ get_or_default starts next size 0 lt ∙ held_start self.text.now self.outline self.outlined ps name next lt)
    (λ le. found ∙ get_or_past starts next size le ∙ sym (end_is ps self.text.now name next (omega (arith, le, held_count self.text.now self.outline self.outlined ps name))))
    (cases_lt next (count_of self.outline))
