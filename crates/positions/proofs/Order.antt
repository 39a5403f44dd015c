-- Sets compared as numbers.
use Rattle.std.proofs.Common.{◌≡◌, ℕ, suc, ◌/◌, ◌%◌, ◌<◌, ◌≤◌, ◌≢◌, ◌↔◌, sym, refl, subst, ⊎_elim, arith}
use lib.Arith.{bin_ind}
use lib.Bits.{bit_and, and_le_r}
use Rattle.std.proofs.lemmas.Bool.{cases_eq}
use Rattle.positions.specs.Places.{Has}
use Rattle.positions.proofs.Digits.{digit, has_empty, has_and}

-- two numbers with the same places are one
pub has_same : (a b : ℕ) → ((i : ℕ) → Has a i ↔ Has b i) → a ≡ b
unfolding Has
has_same = bin_ind (λ a. (b : ℕ) → ((i : ℕ) → Has a i ↔ Has b i) → a ≡ b) start step
  where
    start : (b : ℕ) → ((i : ℕ) → Has 0 i ↔ Has b i) → 0 ≡ b
    start = bin_ind (λ b. ((i : ℕ) → Has 0 i ↔ Has b i) → 0 ≡ b) (λ h. refl) (λ b ih h.
        let r : 0 ≡ b / 2 = ih (λ i. h (suc i)) in
        ⊎_elim (λ e. omega arith) (λ e. absurd (has_empty 0 ((h 0).1 e))) (digit b))

    step : (a : ℕ) → ((b : ℕ) → ((i : ℕ) → Has (a / 2) i ↔ Has b i) → a / 2 ≡ b) → (b : ℕ) → ((i : ℕ) → Has a i ↔ Has b i) → a ≡ b
    step a ih b h =
        let r : a / 2 ≡ b / 2 = ih (b / 2) (λ i. h (suc i)) in
        let d : a % 2 ≡ b % 2 = ⊎_elim (λ p. ⊎_elim (λ q. omega arith) (λ q. absurd (omega (arith, (h 0).1 q))) (digit b)) (λ p. omega (arith, (h 0).0 p)) (digit a) in
        omega arith

-- a number with no place is 0
pub none_zero : (m : ℕ) → ((i : ℕ) → Has m i → ⊥) → m ≡ 0
none_zero m h = has_same m 0 (λ i. (λ d. absurd (h i d), λ d. absurd (has_empty i d)))

-- a number that does not lack every place is not 0
pub some_positive : (m : ℕ) → (((i : ℕ) → Has m i → ⊥) → ⊥) → 0 < m
some_positive m some = ⊎_elim (λ (e : m ≡ 0). absurd (some (λ i h. has_empty i (subst (λ n. Has n i) e h)))) (λ (ne : m ≢ 0). grind arith) (cases_eq m 0)

-- a part of a set is no greater a number
pub subset_le : (a b : ℕ) → ((i : ℕ) → Has a i → Has b i) → a ≤ b
subset_le a b part =
    let same : bit_and a b ≡ a = has_same (bit_and a b) a (λ i. (λ h. ((has_and a b i).0 h).0, λ h. (has_and a b i).1 (h, part i h))) in
    omega (arith, and_le_r a b)

-- a part of a set that lacks a place of it is a lesser number
pub subset_lt : (a b k : ℕ) → ((i : ℕ) → Has a i → Has b i) → Has b k → (Has a k → ⊥) → a < b
subset_lt a b k part here lacks =
    let le = subset_le a b part in
    ⊎_elim (λ (e : a ≡ b). absurd (lacks (subst (λ m. Has m k) (sym e) here))) (λ (ne : a ≢ b). grind arith) (cases_eq a b)
