use Rattle.std.proofs.Common.{arith}
use Rattle.positions.proofs.Digits.{has_below, has_and, has_not}
use Rattle.positions.proofs.Positions.without.Goals as goal

pub returns-clause-places : goal.returns-clause-places
returns-clause-places c i =
    let a = c.args.self.digits in
    let b = c.args.other.digits in (
      λ h. let (d, n) = (has_and a _ i).0 h in (d, ((has_not 64 b i (omega arith)).0 n).1),
      λ w. (has_and a _ i).1 (w.0, (has_not 64 b i (omega arith)).1 (has_below 64 a i (omega arith) w.0, w.1)),
    )
