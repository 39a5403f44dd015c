-- The least place of a set, and the set without it.
use Rattle.std.proofs.Common.{◌≡◌, ℕ, zero, suc, ◌-◌, ◌/◌, ◌%◌, ◌^◌, ◌<◌, ◌≤◌, ◌≢◌, ◌↔◌, sym, ap, ◌∙◌, subst, ⊎_elim, pow-suc, arith}
use lib.Bits.{bit_and, and_shr, and_mod, and_le_r, and_self}
use lib.Count.{count_trailing_zeros, under}
use Rattle.positions.specs.Places.{Has, First, Split}
use Rattle.positions.proofs.Digits.{digit, has_below}

first_odd : (m : ℕ) → m % 2 ≡ 1 → First m 0
unfolding Has
first_odd m e = record { here = e; least = λ i h. omega arith }

first_even : (m t : ℕ) → m % 2 ≡ 0 → First (m / 2) t → First m (suc t)
unfolding Has
first_even m t e f = record { here = f.here; least = go }
  where
    go : (i : ℕ) → Has m i → suc t ≤ i
    go zero h = absurd (omega arith)
    go (suc i) h = let r = f.least i h in omega arith

-- as many places are passed over as zeros stand at the end
pub first_zeros : (k m : ℕ) → 0 < m → m < 2 ^ k → First m (count_trailing_zeros k m)
unfolding count_trailing_zeros
first_zeros zero m p h = absurd (omega arith)
first_zeros (suc k) m p h =
    ⊎_elim
    (λ (e : m % 2 ≡ 0). subst (λ d. First m (under d (count_trailing_zeros k (m / 2)))) (sym e) (first_even m _ e (first_zeros k (m / 2) (omega arith) (omega (arith, pow-suc 2 k)))))
    (λ (e : m % 2 ≡ 1). subst (λ d. First m (under d (count_trailing_zeros k (m / 2)))) (sym e) (first_odd m e))
    (digit m)

-- what a number has in common with the one before it: its places but the least
pub has_rest : (f m : ℕ) → First m f → (i : ℕ) → Has (bit_and m (m - 1)) i ↔ (Has m i × (i ≢ f))
unfolding Has
has_rest f m first zero =
    let zeroth : bit_and m (m - 1) % 2 ≡ 0 = and_mod m (m - 1) 1 ∙ ⊎_elim (λ (e : m % 2 ≡ 0). ap (λ x. bit_and x ((m - 1) % 2)) e) (λ (e : m % 2 ≡ 1). let q : (m - 1) % 2 ≡ 0 = omega arith in λ k. bit_and (e k) (q k)) (digit m) in
    (λ h. absurd (omega arith), λ w. absurd (w.1 (let r = first.least 0 w.0 in omega arith)))
has_rest zero m first (suc i) =
    let o : m % 2 ≡ 1 = first.here in
    let q : (m - 1) / 2 ≡ m / 2 = omega arith in
    let e : bit_and m (m - 1) / 2 ≡ m / 2 = and_shr m (m - 1) 1 ∙ ap (bit_and (m / 2)) q ∙ and_self (m / 2) in
    (λ h. (subst (λ n. Has n i) e h, λ z. omega arith), λ w. subst (λ n. Has n i) (sym e) w.0)
has_rest (suc f) m first (suc i) =
    let o : m % 2 ≡ 0 = ⊎_elim (λ e. e) (λ e. absurd (omega (arith, first.least 0 e))) (digit m) in
    let q : (m - 1) / 2 ≡ m / 2 - 1 = omega arith in
    let e : bit_and m (m - 1) / 2 ≡ bit_and (m / 2) (m / 2 - 1) = and_shr m (m - 1) 1 ∙ ap (bit_and (m / 2)) q in
    let w = has_rest f (m / 2) (record { here = first.here; least = λ j h. let r = first.least (suc j) h in omega arith }) i in
    (λ h. let r = w.0 (subst (λ n. Has n i) e h) in (r.0, λ z. r.1 (omega arith)), λ v. subst (λ n. Has n i) (sym e) (w.1 (v.0, λ z. v.1 (omega arith))))

-- a set of places below 64 taken apart
pub split : (m : ℕ) → 0 < m → m < 2 ^ 64 → Split m (count_trailing_zeros 64 m) (bit_and m (m - 1))
split m some fits =
    let f = first_zeros 64 m some fits in
    record {
      first = f;
      below = has_below 64 m _ fits f.here;
      others = has_rest _ m f;
      less = omega (arith, and_le_r m (m - 1));
    }
