use Rattle.runs.specs.Runs.{Ends}
use Rattle.runs.proofs.Images.{Found}
use Rattle.runs.proofs.image.RunsRelation.image.Given as goal

abbrev pub invariant-loop-m : goal.invariant-loop-m
invariant-loop-m l = Found (Ends l.self) l.fn.starts.digits l.ends.digits l.m-iterator.left.digits
