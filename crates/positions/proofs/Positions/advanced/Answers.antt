use Rattle.std.proofs.Common.{◌*◌, rules}
use Rattle.positions.proofs.Digits.{has_mod, has_double}
use Rattle.positions.proofs.Positions.advanced.Goals as goal

pub returns : goal.returns
returns c j =
    let low = has_mod 64 (c.args.self.digits * 2) j in
    let next = has_double c.args.self.digits j in
    search rules
