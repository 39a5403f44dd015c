use Rattle.std.proofs.Common.{◌<◌, ◌↔◌, subst, arith, rules}
use Rattle.std.proofs.lemmas.Nat.{one_shl}
use Rattle.positions.specs.Places.{Has}
use Rattle.positions.proofs.Digits.{has_empty, has_not}
use Rattle.positions.proofs.Positions.first.Goals as goal

pub returns-then-count-ge-PLACES : goal.returns-then-count-ge-PLACES
returns-then-count-ge-PLACES c i =
    let all = has_not 64 0 i (omega arith) in
    (λ h. let lt = (all.0 h).0 in (omega (arith, lt, c.if-count-ge-PLACES.true), lt), λ h. all.1 (h.1, has_empty i))

pub returns : goal.returns
returns c i =
    let fits : c.args.count < 64 = omega arith in
    let all = subst (λ n. Has n i ↔ ((i < c.args.count) × (Has 0 i → ⊥))) (omega arith) (has_not c.args.count 0 i (search rules)) in
    rw (one_shl c.args.count 64 fits) (λ h. let lt = (all.0 h).0 in (lt, omega (arith, lt, fits)), λ h. all.1 (h.0, has_empty i))
