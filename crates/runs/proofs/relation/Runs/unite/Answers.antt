use Rattle.std.proofs.Common.{⊎_elim, rules}
use Rattle.runs.proofs.Writing.{becomes}
use Rattle.runs.proofs.relation.Runs.unite.Goals as goal

pub returns : goal.returns
returns c = becomes c.map_rows.ensures.kept (λ i j w. ⊎_elim (λ a. a.0) (λ b. b.0) w) (λ i lt j. let call = c.map_rows.ensures.rows i lt in search rules)
