use Rattle.std.proofs.Common.{Some, ap, sym, ◌∙◌}
use Rattle.texts.specs.Shown.{shown}
use Rattle.registers.specs.Registers.{rows_in_use}
use Rattle.station.specs.Stations.{lists_at}
use Rattle.station.proofs.Forces.{none_below, parent_posted, parent_passed}
use Rattle.station.proofs.station.Station.+from_above.Goals as goal

pub returns-in_err-up : goal.returns-in_err-up
returns-in_err-up t c =
    let path = c.args.path.now in
    rw c.from_residual.ensures (none_below (lists_at (rows_in_use c.args.self.now.places)) (shown path.text) path.lawful c.in_err-up.ensures)

pub returns-in-None : goal.returns-in-None
returns-in-None t c =
    let path = c.args.path.now in
    let up = c.in_ok-up.up in
    rw (parent_passed (rows_in_use c.args.self.now.places) (shown path.text) path.lawful (shown up.text) c.in_ok-up.ensures (rw (← c.as_text.ensures) c.in-None.ensures)) c.from_above.ensures

pub returns-in-Some : goal.returns-in-Some
returns-in-Some t c =
    let path = c.args.path.now in
    let up = c.in_ok-up.up in
    parent_posted (rows_in_use c.args.self.now.places) (shown path.text) path.lawful (shown up.text) c.in_ok-up.ensures c.in-Some.place.now (rw (← c.as_text.ensures) c.in-Some.ensures)
    ∙ ap Some (sym c.list_below.ensures)
