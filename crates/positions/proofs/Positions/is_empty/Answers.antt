use Rattle.std.proofs.Common.{subst, eq-eqb, eqb-true}
use Rattle.positions.specs.Places.{Has}
use Rattle.positions.proofs.Digits.{has_empty}
use Rattle.positions.proofs.Order.{none_zero}
use Rattle.positions.proofs.Positions.is_empty.Goals as goal

pub returns : goal.returns
returns c = (λ h i d. has_empty i (subst (λ m. Has m i) (eqb-true _ _ h) d), λ w. eq-eqb _ _ (none_zero c.args.self.digits w))
