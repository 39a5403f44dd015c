use Rattle.std.proofs.Common.{inr, sym, ap, ◌∙◌}
use Rattle.texts.specs.Shown.{shown}
use Rattle.histories.specs.Histories.{Spawn}
use Rattle.histories.specs.Processes.{spawned}
use Rattle.station.proofs.Entries.{told_after, of_process, spawn_adds}
use Rattle.station.proofs.station.Station.spawn.Goals as goal

pub returns-clause-answer : goal.returns-clause-answer
returns-clause-answer c past h =
    let parent = shown c.in_ok-parent.parent.now.text in
    let is = c.as_bytes.ensures ∙ c.spawned-name.ensures ∙ ap (spawned parent) c.in_ok-program.ensures.0 in
    of_process _ parent c.enter.result _ (sym (h.names c.args.parent.0) ∙ c.in_ok-parent.ensures)
    (inr (c.in_ok-program.ensures.1.faultless, rw (← is) (c.enter.ensures.answer past h)))

pub returns-clause-after : goal.returns-clause-after
returns-clause-after c past h =
    let parent = shown c.in_ok-parent.parent.now.text in
    let is = c.as_bytes.ensures ∙ c.spawned-name.ensures ∙ ap (spawned parent) c.in_ok-program.ensures.0 in
    told_after past (Spawn c.args.parent.0 c.args.program.now) (spawned parent c.args.program.now) c.args.self.now c.enter.new.self c.enter.result
    (spawn_adds past c.args.parent.0 parent c.args.program.now (sym (h.names c.args.parent.0) ∙ c.in_ok-parent.ensures))
    (rw (← is) c.enter.ensures.entered) c.enter.ensures.same h
