-- A text has one row of references.
use Rattle.std.proofs.Common.{◌≡◌, ℕ, List, sym, ap, ◌∙◌}
use Rattle.lists.proofs.Placing.{placed_unique}
use Rattle.openings.specs.References.{Reference, references_of, Refers}

-- all references of a text are one list
pub refers_one : {text : List ℕ} {rs ss : List Reference} → Refers text rs → Refers text ss → rs ≡ ss
refers_one {text} a b = a.these ∙ ap references_of (placed_unique text 0 a.placed b.placed) ∙ sym b.these
