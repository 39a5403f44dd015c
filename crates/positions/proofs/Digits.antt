-- What each operation on numbers does to their places.
use Rattle.std.proofs.Common.{◌≡◌, ℕ, zero, suc, ◌+◌, ◌-◌, ◌*◌, ◌/◌, ◌%◌, ◌^◌, ◌<◌, ◌⊎◌, ◌↔◌, sym, refl, ap, ◌∙◌, subst, inl, inr, ⊎_elim, pow-suc, add-one, arith, shr-shr}
use lib.Bits.{bit_and, bit_or, or_shr, or_mod, and_shr, and_mod}
use lib.Pow.{field, mod-mod-pow}
use Rattle.std.proofs.lemmas.Bool.{cases_eq}
use Rattle.positions.specs.Places.{Has}

-- the last digit of a number is 0 or 1
pub digit : (n : ℕ) → (n % 2 ≡ 0) ⊎ (n % 2 ≡ 1)
digit n = grind arith

-- a place is in a set or not
pub has_or_not : (m i : ℕ) → Has m i ⊎ (Has m i → ⊥)
unfolding Has
has_or_not m zero = cases_eq (m % 2) 1
has_or_not m (suc i) = has_or_not (m / 2) i

-- the empty set has no place
pub has_empty : (i : ℕ) → Has 0 i → ⊥
unfolding Has
has_empty zero h = omega arith
has_empty (suc i) h = has_empty i h

-- a number below a power has no place at its exponent or past it
pub has_below : (k m i : ℕ) → m < 2 ^ k → Has m i → i < k
unfolding Has
has_below zero m i h d = absurd (has_empty i (subst (λ n. Has n i) (omega arith) d))
has_below (suc k) m zero h d = omega arith
has_below (suc k) m (suc i) h d = let r = has_below k (m / 2) i (omega (arith, pow-suc 2 k)) d in omega arith

-- a shift brings the digit of a place to the front
pub has_shr : (m i : ℕ) → Has m i ↔ (m / 2 ^ i % 2 ≡ 1)
unfolding Has
has_shr m zero = (λ h. omega arith, λ h. omega arith)
has_shr m (suc i) =
    let w = has_shr (m / 2) i in
    let e : m / 2 / 2 ^ i ≡ m / 2 ^ suc i = shr-shr m 1 i ∙ ap (λ k. m / 2 ^ k) (omega arith) in
    (λ h. ap (λ n. n % 2) (sym e) ∙ w.0 h, λ h. w.1 (ap (λ n. n % 2) e ∙ h))

-- the union of two sets
pub has_or : (a b i : ℕ) → Has (bit_or a b) i ↔ (Has a i ⊎ Has b i)
unfolding Has
has_or a b zero =
    subst (λ d. (d ≡ 1) ↔ ((a % 2 ≡ 1) ⊎ (b % 2 ≡ 1))) (sym (or_mod a b 1)) (go (a % 2) (b % 2) (digit a) (digit b))
  where
    go : (x y : ℕ) → (x ≡ 0) ⊎ (x ≡ 1) → (y ≡ 0) ⊎ (y ≡ 1) → (bit_or x y ≡ 1) ↔ ((x ≡ 1) ⊎ (y ≡ 1))
    go x y (inl p) (inl q) = (λ h. absurd (omega (arith, sym h ∙ (λ k. bit_or (p k) (q k)))), λ w. absurd (⊎_elim (λ h. omega arith) (λ h. omega arith) w))
    go x y (inl p) (inr q) = (λ h. inr q, λ w. λ k. bit_or (p k) (q k))
    go x y (inr p) (inl q) = (λ h. inl p, λ w. λ k. bit_or (p k) (q k))
    go x y (inr p) (inr q) = (λ h. inl p, λ w. λ k. bit_or (p k) (q k))
has_or a b (suc i) = subst (λ m. Has m i ↔ (Has (a / 2) i ⊎ Has (b / 2) i)) (sym (or_shr a b 1)) (has_or (a / 2) (b / 2) i)

-- what two sets have in common
pub has_and : (a b i : ℕ) → Has (bit_and a b) i ↔ (Has a i × Has b i)
unfolding Has
has_and a b zero =
    subst (λ d. (d ≡ 1) ↔ ((a % 2 ≡ 1) × (b % 2 ≡ 1))) (sym (and_mod a b 1)) (go (a % 2) (b % 2) (digit a) (digit b))
  where
    go : (x y : ℕ) → (x ≡ 0) ⊎ (x ≡ 1) → (y ≡ 0) ⊎ (y ≡ 1) → (bit_and x y ≡ 1) ↔ ((x ≡ 1) × (y ≡ 1))
    go x y (inl p) (inl q) = (λ h. absurd (omega (arith, sym h ∙ (λ k. bit_and (p k) (q k)))), λ w. absurd (omega (arith, w.0)))
    go x y (inl p) (inr q) = (λ h. absurd (omega (arith, sym h ∙ (λ k. bit_and (p k) (q k)))), λ w. absurd (omega (arith, w.0)))
    go x y (inr p) (inl q) = (λ h. absurd (omega (arith, sym h ∙ (λ k. bit_and (p k) (q k)))), λ w. absurd (omega (arith, w.1)))
    go x y (inr p) (inr q) = (λ h. (p, q), λ w. λ k. bit_and (p k) (q k))
has_and a b (suc i) = subst (λ m. Has m i ↔ (Has (a / 2) i × Has (b / 2) i)) (sym (and_shr a b 1)) (has_and (a / 2) (b / 2) i)

-- the places below a width that a set lacks
pub has_not : (k b i : ℕ) → b < 2 ^ k → Has (2 ^ k - 1 - b) i ↔ ((i < k) × (Has b i → ⊥))
unfolding Has
has_not zero b i h = (λ d. absurd (has_empty i (subst (λ n. Has n i) (omega arith) d)), λ w. absurd (omega (arith, w.0)))
has_not (suc k) b zero h =
    let p = pow-suc 2 k in
    (λ d. (omega arith, λ e. omega arith), λ w. ⊎_elim (λ e. omega arith) (λ e. absurd (w.1 e)) (digit b))
has_not (suc k) b (suc i) h =
    let e : (2 ^ suc k - 1 - b) / 2 ≡ 2 ^ k - 1 - b / 2 = omega (arith, pow-suc 2 k) in
    let w = has_not k (b / 2) i (omega (arith, pow-suc 2 k)) in
    (λ d. let r = w.0 (subst (λ n. Has n i) e d) in (omega (arith, r.0), r.1), λ v. subst (λ n. Has n i) (sym e) (w.1 (omega (arith, v.0), v.1)))

half_pow : (k : ℕ) → 2 ^ suc k / 2 ≡ 2 ^ k
half_pow k = omega (arith, pow-suc 2 k)

-- a power has one place
pub has_pow : (k i : ℕ) → Has (2 ^ k) i ↔ (i ≡ k)
unfolding Has
has_pow zero zero = (λ h. refl, λ e. refl)
has_pow zero (suc i) = (λ h. absurd (has_empty i h), λ e. absurd (omega arith))
has_pow (suc k) zero = (λ h. absurd (omega (arith, pow-suc 2 k)), λ e. absurd (omega arith))
has_pow (suc k) (suc i) =
    let w = has_pow k i in
    (λ h. ap suc (w.0 (subst (λ m. Has m i) (half_pow k) h)), λ e. subst (λ m. Has m i) (sym (half_pow k)) (w.1 (omega arith)))

-- what a remainder by a power keeps: the places below its exponent
pub has_mod : (k m i : ℕ) → Has (m % 2 ^ k) i ↔ ((i < k) × Has m i)
unfolding Has
has_mod zero m i = (λ h. absurd (has_empty i (subst (λ n. Has n i) (omega arith) h)), λ w. absurd (omega (arith, w.0)))
has_mod (suc k) m zero =
    let e : m % 2 ^ suc k % 2 ≡ m % 2 = subst (λ j. m % 2 ^ j % 2 ≡ m % 2) (add-one k) (mod-mod-pow m k 1) in
    (λ h. (omega arith, sym e ∙ h), λ w. e ∙ w.1)
has_mod (suc k) m (suc i) =
    let e : m % 2 ^ suc k / 2 ≡ m / 2 % 2 ^ k = subst (λ j. m % 2 ^ j / 2 ≡ m / 2 % 2 ^ k) (add-one k) (field m k 1) in
    let w = has_mod k (m / 2) i in
    (λ h. let r = w.0 (subst (λ n. Has n i) e h) in (omega (arith, r.0), r.1), λ v. subst (λ n. Has n i) (sym e) (w.1 (omega (arith, v.0), v.1)))

-- twice a number has each place one further
pub has_double : (m j : ℕ) → Has (m * 2) j ↔ ((i : ℕ) × (j ≡ i + 1) × Has m i)
unfolding Has
has_double m zero = (λ h. absurd (omega arith), λ w. absurd (omega (arith, w.1)))
has_double m (suc j) =
    let e : m * 2 / 2 ≡ m = omega arith in
    (λ h. (j, omega arith, subst (λ n. Has n j) e h), λ w. let is : w.0 ≡ j = omega (arith, w.1) in subst (λ n. Has n j) (sym e) (subst (λ i. Has m i) is w.2))
