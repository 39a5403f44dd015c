use Rattle.std.proofs.Common.{◌<◌, arith}
use Rattle.positions.specs.Places.{Has}
use Rattle.positions.proofs.Digits.{has_below}
use Rattle.positions.proofs.Positions.remove.Goals as goal

pub returns : goal.returns
returns c j =
    let rest = c.without.ensures.places j in
    let one = c.insert.ensures j in
    let none = c.empty.ensures j in
    let below : Has c.args.self.digits j → j < 64 = has_below 64 c.args.self.digits j (omega arith) in
    grind arith
