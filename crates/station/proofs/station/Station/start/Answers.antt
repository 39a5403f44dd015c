use Rattle.std.proofs.Common.{◌∙◌}
use Rattle.histories.specs.Histories.{Start}
use Rattle.station.proofs.Entries.{told_after, start_adds}
use Rattle.station.proofs.station.Station.start.Goals as goal

pub returns-clause-after : goal.returns-clause-after
returns-clause-after c past h =
    let is = c.as_bytes.ensures ∙ c.in_ok-program.ensures.0 in
    told_after past (Start c.args.program.now) c.args.program.now c.args.self.now c.enter.new.self c.enter.result
    (start_adds past c.args.program.now)
    (rw (← is) c.enter.ensures.entered) c.enter.ensures.same h
