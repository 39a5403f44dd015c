use Rattle.std.proofs.Common.{◌<◌, ◌^◌, arith, rules}
use Rattle.std.proofs.lemmas.Nat.{one_shl}
use Rattle.positions.proofs.Digits.{has_or, has_pow}
use Rattle.positions.proofs.Positions.insert.Goals as goal

pub returns : goal.returns
returns c j =
    let i = c.args.i in
    let fits : i < 64 = omega arith in
    let one = has_pow i j in
    let both = has_or c.args.self.digits (2 ^ i) j in
    rw (one_shl i 64 fits) (search rules)
