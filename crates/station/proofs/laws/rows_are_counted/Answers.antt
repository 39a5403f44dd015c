use Rattle.station.proofs.RowsCounted.{rows_counted}
use Rattle.station.proofs.laws.rows_are_counted.Goals as goal

pub returns : goal.returns
returns c = rows_counted
