use Rattle.std.proofs.Common.{◌≡◌}
use Rattle.runs.specs.Runs.{Ends}
use Rattle.runs.proofs.Closing.{From, Still}
use Rattle.runs.proofs.relation.Runs.closed.Given as goal

abbrev pub invariant-loop-i : goal.invariant-loop-i
invariant-loop-i l = (l.runs.count ≡ l.initial.runs.count) × From (Ends l.initial.runs) l.initial.runs.count l.i (Ends l.runs) × Still (Ends l.runs) l.going.digits l.i
