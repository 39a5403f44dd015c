use Rattle.std.proofs.Common.{◌≡◌, ℕ, ◌+◌, min, ◌↔◌, List, sym, ap, ◌∙◌, subst}
use Rattle.runs.specs.Runs.{Ends}
use Rattle.texts.specs.Shown.{shown}
use Rattle.names.specs.Names.{LawfulName}
use Rattle.name_parts.specs.declared.mark.Mark.TheVariants.{Dot}
use Rattle.name_parts.specs.Outlines.{count_of, mark_places, OutlineOf}
use Rattle.name_parts.specs.Dotted.{DottedWords}
use Rattle.name_parts.specs.Tables.{PartialNames}
use Rattle.name_parts.proofs.Holding.{held_few, held_partial}
use Rattle.name_parts.proofs.name_parts.NameParts.of.Goals as goal

pub invariant_of-result : goal.invariant_of-result
invariant_of-result c =
    let o = c.of-outline.result in
    let text = shown c.args.name.now.text in
    let runs = c.dotted_words-partial in
    let Mere : List ℕ → Type 0 = λ t. ∥ LawfulName t ∥₁ in
    let same : text ≡ c.as_bytes.result.now = sym c.as_bytes.ensures in
    let Dotted : ℕ → Type 0 = λ n. (i j : ℕ) → Ends runs.result i j ↔ DottedWords (min (n + 1) 64) o.words.digits (mark_places o Dot).digits i j in
    let counted : runs.result.count ≡ min (count_of o + 1) 64 = runs.ensures.counted ∙ ap (λ n. min (n + 1) 64) c.len.ensures.value in
    record {
      few = held_few text o c.args.name.now.lawful c.of-outline.ensures;
      lawful = subst Mere same c.args.name.now.lawful;
      outlined = ∣ subst (λ t. OutlineOf t o) same c.of-outline.ensures ∣₁;
      spanned = ∣ subst (λ t. PartialNames t runs.result) same (held_partial text o runs.result c.of-outline.ensures counted (subst Dotted c.len.ensures.value runs.ensures.ends)) ∣₁;
    }
