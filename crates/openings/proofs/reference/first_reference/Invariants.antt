use Rattle.std.proofs.Common.{◌≡◌, ℕ, List}
use Rattle.lists.specs.Trees.{Sign}
use Rattle.lists.specs.Placed.{Placed}
use Rattle.openings.specs.Opening.{Name}
use Rattle.openings.specs.MetReferences.{Named}
use Rattle.openings.specs.Views.{text_in}
use Rattle.openings.proofs.Walking.{Passing}
use Rattle.openings.proofs.reference.first_reference.Given as goal

-- no reference before the place where the walk stands is to the group of that name
abbrev pub invariant-loop-lexeme : goal.invariant-loop-lexeme
invariant-loop-lexeme l =
    (goal.iterator-loop-lexeme).can_next l.lexeme-iterator
    × (goal.iterator-loop-lexeme).is_finite l.lexeme-iterator
    × (l.lexeme-iterator.text.now ≡ text_in l.text)
    × ((ps : List (ℕ × Sign)) → Placed (text_in l.text) 0 ps → Passing (text_in l.text) (λ rs. (h : Name) → Named rs h → h ≡ l.name → ⊥) ps l.lexeme-iterator.at)
