use Rattle.std.proofs.Common.{arith}
use Rattle.runs.proofs.Writing.{at_empty}
use Rattle.runs.proofs.relation.Runs.none.Goals as goal

pub invariant_of-result : goal.invariant_of-result
invariant_of-result c = record { counted = omega arith; onward = λ i j h. absurd (at_empty 64 c.empty.result c.empty.ensures i j (omega (arith, h.0)) h.1) }

pub returns-clause-ends : goal.returns-clause-ends
returns-clause-ends c i j h = at_empty 64 c.empty.result c.empty.ensures i j (omega (arith, h.0)) h.1
