use Rattle.positions.proofs.Digits.{has_or}
use Rattle.positions.proofs.Positions.union.Goals as goal

pub returns : goal.returns
returns c = has_or c.args.self.digits c.args.other.digits
