use Rattle.std.proofs.Common.{inr, sym, ◌∙◌}
use Rattle.texts.specs.Shown.{shown}
use Rattle.histories.specs.Histories.{SpawnInRole}
use Rattle.histories.specs.Processes.{spawned_in_role}
use Rattle.station.proofs.Entries.{told_after, of_process, role_adds}
use Rattle.station.proofs.station.Station.spawn_in_role.Goals as goal

pub returns-clause-answer : goal.returns-clause-answer
returns-clause-answer c past h =
    let parent = shown c.in_ok-parent.parent.now.text in
    let is = c.as_bytes.ensures ∙ c.spawned_in_role-name.ensures ∙ (λ i. spawned_in_role parent (c.in_ok-role.ensures.0 i) (c.in_ok-program.ensures.0 i)) in
    of_process _ parent c.enter.result _ (sym (h.names c.args.parent.0) ∙ c.in_ok-parent.ensures)
    (inr (c.in_ok-program.ensures.1.faultless, inr (c.in_ok-role.ensures.1.faultless, rw (← is) (c.enter.ensures.answer past h))))

pub returns-clause-after : goal.returns-clause-after
returns-clause-after c past h =
    let parent = shown c.in_ok-parent.parent.now.text in
    let is = c.as_bytes.ensures ∙ c.spawned_in_role-name.ensures ∙ (λ i. spawned_in_role parent (c.in_ok-role.ensures.0 i) (c.in_ok-program.ensures.0 i)) in
    told_after past (SpawnInRole c.args.parent.0 c.args.role.now c.args.program.now) (spawned_in_role parent c.args.role.now c.args.program.now) c.args.self.now c.enter.new.self c.enter.result
    (role_adds past c.args.parent.0 parent c.args.role.now c.args.program.now (sym (h.names c.args.parent.0) ∙ c.in_ok-parent.ensures))
    (rw (← is) c.enter.ensures.entered) c.enter.ensures.same h
