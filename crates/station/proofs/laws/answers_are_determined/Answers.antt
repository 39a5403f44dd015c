use Rattle.station.proofs.Determined.{determined}
use Rattle.station.proofs.laws.answers_are_determined.Goals as goal

pub returns : goal.returns
returns c = determined
