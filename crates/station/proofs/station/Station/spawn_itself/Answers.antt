use Rattle.std.proofs.Common.{inr, sym, ◌∙◌}
use Rattle.texts.specs.Shown.{shown}
use Rattle.histories.specs.Histories.{SpawnItself}
use Rattle.station.proofs.Entries.{told_after, of_process, itself_adds}
use Rattle.station.proofs.station.Station.spawn_itself.Goals as goal

pub returns-clause-answer : goal.returns-clause-answer
returns-clause-answer c past h =
    let is = c.as_bytes.ensures ∙ c.in_ok-itself.ensures.0 in
    of_process _ (shown c.in_ok-_parent._parent.now.text) c.enter.result _ (sym (h.names c.args.parent.0) ∙ c.in_ok-_parent.ensures)
    (inr (c.in_ok-itself.ensures.1.faultless, rw (← is) (c.enter.ensures.answer past h)))

pub returns-clause-after : goal.returns-clause-after
returns-clause-after c past h =
    let is = c.as_bytes.ensures ∙ c.in_ok-itself.ensures.0 in
    told_after past (SpawnItself c.args.parent.0 c.args.program.now) c.args.program.now c.args.self.now c.enter.new.self c.enter.result
    (itself_adds past c.args.parent.0 c.args.program.now)
    (rw (← is) c.enter.ensures.entered) c.enter.ensures.same h
