use Rattle.station.proofs.NumbersEntered.{numbers_entered}
use Rattle.station.proofs.laws.numbers_are_entered.Goals as goal

pub returns : goal.returns
returns c = numbers_entered
