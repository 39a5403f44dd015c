use Rattle.positions.proofs.Digits.{has_empty}
use Rattle.positions.proofs.Positions.empty.Goals as goal

pub returns : goal.returns
returns c = has_empty
