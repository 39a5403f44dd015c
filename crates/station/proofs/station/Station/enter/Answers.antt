use Rattle.std.proofs.Common.{inr, arith}
use Rattle.station.proofs.Entries.{no_row_fault}
use Rattle.station.proofs.station.Station.enter.Goals as goal

pub returns-in-Ok-clause-answer : goal.returns-in-Ok-clause-answer
returns-in-Ok-clause-answer c past h =
    inr (c.in_ok-name.ensures.1.faultless, inr (no_row_fault past c.args.self.now h c.in-Ok.ensures.table.room (λ e. omega arith), cc))
