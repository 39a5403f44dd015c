use Rattle.std.proofs.Common.{rules}
use Rattle.runs.proofs.Writing.{becomes}
use Rattle.runs.proofs.relation.Runs.follow.Goals as goal

pub returns : goal.returns
returns g c = becomes c.map_rows.ensures.kept (λ i j w. w.1.0) (λ i lt j. let call = c.map_rows.ensures.rows i lt in search rules)
