use Rattle.station.proofs.MadeNames.{made_names}
use Rattle.station.proofs.laws.made_names_are_names.Goals as goal

pub returns : goal.returns
returns c = made_names
