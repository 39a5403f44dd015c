use Rattle.std.proofs.Common.{rules}
use Rattle.runs.specs.Relations.{Identity}
use Rattle.runs.specs.Runs.{Becomes}
use Rattle.runs.proofs.Writing.{becomes}
use Rattle.runs.proofs.relation.Runs.start.Goals as goal

pub returns-clause-ends : goal.returns-clause-ends
returns-clause-ends c =
    let all : Becomes c.none-runs.result c.map_rows.new.self (Identity c.none-runs.result.count) = becomes c.map_rows.ensures.kept (λ i j w. w.0) (λ i lt j. let call = c.map_rows.ensures.rows i lt in search rules) in
    search rules
