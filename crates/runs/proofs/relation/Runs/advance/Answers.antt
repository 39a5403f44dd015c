use Rattle.std.proofs.Common.{rules}
use Rattle.runs.proofs.Writing.{becomes}
use Rattle.runs.proofs.relation.Runs.advance.Goals as goal

pub returns : goal.returns
returns c = becomes c.map_rows.ensures.kept (λ i j w. w.3.0) (λ i lt j. let call = c.map_rows.ensures.rows i lt in search rules)
