use Rattle.std.proofs.Common.{◌/◌, ◌^◌, sym, ◌∙◌, arith, ltb-true, eq-eqb, eqb-true}
use lib.Bits.{and_mask}
use Rattle.positions.proofs.Digits.{has_below, has_shr}
use Rattle.positions.proofs.Positions.contains.Goals as goal

pub returns-then-i-lt-PLACES : goal.returns-then-i-lt-PLACES
returns-then-i-lt-PLACES c =
    let low = and_mask (c.args.self.digits / 2 ^ c.args.i) 1 in
    let w = has_shr c.args.self.digits c.args.i in
    (λ h. w.1 (sym low ∙ eqb-true _ _ h), λ h. eq-eqb _ _ (low ∙ w.0 h))

pub returns-else-i-lt-PLACES : goal.returns-else-i-lt-PLACES
returns-else-i-lt-PLACES c = (
  λ h. absurd (omega (arith, ltb-true _ _ h)),
  λ h. absurd (omega (arith, has_below 64 c.args.self.digits c.args.i (omega arith) h)),
)
