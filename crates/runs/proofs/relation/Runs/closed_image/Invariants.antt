use Rattle.std.proofs.Common.{ℕ}
use Rattle.positions.specs.Places.{Has}
use Rattle.runs.specs.Runs.{Ends}
use Rattle.runs.proofs.Images.{Found}
use Rattle.runs.proofs.relation.Runs.closed_image.Given as goal

abbrev pub invariant-loop-m : goal.invariant-loop-m
invariant-loop-m l = Found (Ends l.self) l.initial.left.digits l.ends.digits l.left.digits × ((m : ℕ) → Has l.left.digits m → Has l.initial.left.digits m)

abbrev pub decreases-loop-m : goal.decreases-loop-m
decreases-loop-m l = l.left.digits
