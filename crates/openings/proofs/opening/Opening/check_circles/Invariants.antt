use Rattle.std.proofs.Common.{ℕ, ◌≤◌, List, length}
use Rattle.openings.specs.Opening.{Meaning}
use Rattle.openings.specs.Circles.{OnCircle}
use Rattle.openings.specs.Progress.{Progress}
use Rattle.openings.specs.Views.{texts_in}
use Rattle.openings.specs.OpeningState.{met}
use Rattle.openings.specs.BackReferences.{Closes}
use Rattle.openings.proofs.opening.Opening.check_circles.Given as goal

-- no reference of the list or of the groups so far lies on a circle
abbrev pub invariant-loop-k : goal.invariant-loop-k
invariant-loop-k l = (M : Meaning) (list : List ℕ) → Progress M list (length (met l.self)) (met l.self) (texts_in l.self.texts) l.self.links → Closes l.self.links l.leads → (j q : ℕ) → j ≤ l.k → OnCircle M (met l.self) j q → ⊥
