use Rattle.std.proofs.Common.{length}
use Rattle.texts.specs.Shown.{shown}
use Rattle.station.proofs.station.Station.+from_above.Given as goal

abbrev pub decreases-from_above : goal.decreases-from_above
decreases-from_above l = length (shown l.path.now.text)
