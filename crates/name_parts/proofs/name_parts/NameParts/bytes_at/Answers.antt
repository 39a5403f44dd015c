use Rattle.std.proofs.Common.{◌≤◌, get_or, sym, ap, ◌∙◌, subst}
use Rattle.name_parts.proofs.Holding.{held_start, held_forward, held_within}
use Rattle.name_parts.proofs.Spelling.{bytes_between}
use Rattle.name_parts.proofs.name_parts.NameParts.bytes_at.Goals as goal

pub slice_bounds-result-count : goal.slice_bounds-result-count
slice_bounds-result-count c = let self = c.args.self.now in subst (λ l. get_or l c.args.i 0 ≤ c.end_of.result) (sym c.deref.ensures.0) (held_forward self.text.now self.outline self.outlined self.lawful c.args.i c.end_of.result c.requires c.end_of.ensures)

pub slice_bounds-result-start : goal.slice_bounds-result-start
slice_bounds-result-start c = let self = c.args.self.now in subst (λ l. get_or l c.args.i 0 ≤ c.end_of.result) (sym c.deref.ensures.0) (held_forward self.text.now self.outline self.outlined self.lawful c.args.i c.end_of.result c.requires c.end_of.ensures)

pub slice_bounds-result-end : goal.slice_bounds-result-end
slice_bounds-result-end c = let self = c.args.self.now in held_within self.text.now self.outline self.outlined self.lawful c.args.i c.end_of.result c.requires c.end_of.ensures

pub returns : goal.returns
returns c ps name p here =
    let self = c.args.self.now in
    bytes_between ps self.text.now name p c.args.i (get_or c.deref.result.now c.args.i 0) c.end_of.result here (ap (λ l. get_or l c.args.i 0) c.deref.ensures.0 ∙ held_start self.text.now self.outline self.outlined ps name c.args.i c.requires) (c.end_of.ensures ps name)
