use Rattle.positions.proofs.Digits.{has_and}
use Rattle.positions.proofs.Positions.common.Goals as goal

pub returns : goal.returns
returns c = has_and c.args.self.digits c.args.other.digits
