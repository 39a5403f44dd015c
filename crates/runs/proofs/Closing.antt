-- The closure of a relation, worked out from the last row to the first.
use Rattle.std.proofs.Common.{◌≡◌, ℕ, ◌+◌, ◌<◌, ◌≤◌, ◌≢◌, ◌⊎◌, ◌↔◌, sym, refl, ◌∙◌, subst, inl, inr, ⊎_elim, arith}
use mathlib.Core.Logic.{∥∥₁_elim}
use mathlib.Core.HLevel.{⊥_prop}
use Rattle.std.proofs.lemmas.Bool.{cases_eq}
use Rattle.positions.proofs.Digits.{has_or_not}
use Rattle.positions.specs.Places.{Has}
use Rattle.runs.specs.declared.relation.Runs.{Runs}
use Rattle.runs.specs.Relations.{Reach, Closure, done, further}
use Rattle.runs.specs.Runs.{Ends, Reflexive, Closed}
use Rattle.runs.proofs.Reaching.{reach_one, reach_trans, reach_onward}

-- that a relation is closed may be taken from the mere statement
pub closed_runs : (r : Runs) → ∥ Closed r ∥₁ → Closed r
closed_runs r mere i k j a b = (a.0, ⊎_elim (λ h. h) (λ n. absurd (∥∥₁_elim mere ⊥_prop (λ closed. n (closed i k j a b).1))) (has_or_not _ j))

-- that a relation is reflexive may be taken from the mere statement
pub reflexive_runs : (r : Runs) → ∥ Reflexive r ∥₁ → Reflexive r
reflexive_runs r mere i lt = (lt, ⊎_elim (λ h. h) (λ n. absurd (∥∥₁_elim mere ⊥_prop (λ reflexive. n (reflexive i lt).1))) (has_or_not _ i))

-- what is reached by a relation that is reflexive and closed is an end of it
pub reach_ends : (r : Runs) → Reflexive r → Closed r → {i j : ℕ} → i < r.count → Reach (Ends r) i j → Ends r i j
reach_ends r reflexive closed {i} lt (done e) = subst (Ends r i) (sym e) (reflexive i lt)
reach_ends r reflexive closed {i} {j} lt (further m a (done e)) = subst (Ends r i) (sym e) a
reach_ends r reflexive closed {i} {j} lt (further m a (further k b way)) = closed i m j a (reach_ends r reflexive closed b.0 (further k b way))

-- from the places from one on that are not in a set no run leads anywhere else
abbrev pub Still : (ℕ → ℕ → Type 0) → ℕ → ℕ → Type 0
Still Is going i = (m j : ℕ) → i ≤ m → (Has going m → ⊥) → Is m j → j ≡ m

module _ (Was : ℕ → ℕ → Type 0) (count : ℕ) where
  -- a relation whose rows from one on are closed, and the others are as they were
  pub record From (i : ℕ) (Is : ℕ → ℕ → Type 0) : Type 0 where
    pub before : (k j : ℕ) → k < i → Is k j ↔ Was k j
    pub after : (k j : ℕ) → i ≤ k → Is k j ↔ Closure count Was k j

  module _ (start : (i j : ℕ) → Was i j → i < count) (on : (i j : ℕ) → Was i j → i ≤ j) (i : ℕ) (Is : ℕ → ℕ → Type 0) (from : From (i + 1) Is) where
    -- an end other than the start is past it
    pub past : (m : ℕ) → Was i m → m ≢ i → i + 1 ≤ m
    past m a ne = let le = on i m a in grind arith

    -- a run after a run from such an end is a run
    pub past_closed : (m k j : ℕ) → Was i m → m ≢ i → Is m k → Is k j → Is m j
    past_closed m k j a ne b d =
        let far = past m a ne in
        let (lt, r) = (from.after m k far).0 b in
        let le = reach_onward on r in
        (from.after m j far).1 (lt, reach_trans r ((from.after k j (omega arith)).0 d).1)

    -- a place reaches its ends, itself, and the ends of its ends
    pub closed_row : (Row : ℕ → Type 0) → i < count → ((j : ℕ) → Row j ↔ ((Was i j ⊎ (j ≡ i)) ⊎ ((m : ℕ) × (Was i m × (m ≢ i)) × Is m j))) → (j : ℕ) → Row j ↔ Closure count Was i j
    closed_row Row lt is j = (
      λ h. (lt, ⊎_elim (⊎_elim (λ a. reach_one a) (λ e. done e)) (λ s. further s.0 s.1.0 ((from.after s.0 j (past s.0 s.1.0 s.1.1)).0 s.2).1) ((is j).0 h)),
      λ w. reached i j refl w.1,
    )
      where
        onward : (m j : ℕ) → Was i m → m ≢ i → Reach Was m j → Row j
        onward m j a ne (done e) = (is j).1 (inl (inl (subst (Was i) (sym e) a)))
        onward m j a ne (further k b r) = (is j).1 (inr (m, (a, ne), (from.after m j (past m a ne)).1 (start m k b, further k b r)))

        reached : (k j : ℕ) → k ≡ i → Reach Was k j → Row j
        reached k j at (done e) = (is j).1 (inl (inr (e ∙ at)))
        reached k j at (further m a r) = ⊎_elim (λ (e : m ≡ i). reached m j e r) (λ (ne : m ≢ i). onward m j (subst (λ n. Was n m) at a) ne r) (cases_eq m i)

    -- one more row is closed
    pub from_more : (Next : ℕ → ℕ → Type 0) (Row : ℕ → Type 0) → ((k j : ℕ) → Next k j ↔ (((k ≡ i) × Row j) ⊎ ((k ≢ i) × Is k j))) → ((j : ℕ) → Row j ↔ Closure count Was i j) → From i Next
    from_more Next Row set row = record {
      before = λ k j lt. (
        λ h. (from.before k j (omega arith)).0 (⊎_elim (λ w. absurd (omega (arith, w.0))) (λ w. w.1) ((set k j).0 h)),
        λ h. (set k j).1 (inr (λ e. omega arith, (from.before k j (omega arith)).1 h)),
      );
      after = λ k j le. ⊎_elim
          (λ (e : k ≡ i). (
            λ h. subst (λ n. Closure count Was n j) (sym e) (⊎_elim (λ w. (row j).0 w.1) (λ w. absurd (w.0 e)) ((set k j).0 h)),
            λ h. (set k j).1 (inl (e, (row j).1 (subst (λ n. Closure count Was n j) e h))),
          ))
          (λ (ne : k ≢ i).
          let far : i + 1 ≤ k = grind arith in (
            λ h. (from.after k j far).0 (⊎_elim (λ w. absurd (ne w.0)) (λ w. w.1) ((set k j).0 h)),
            λ h. (set k j).1 (inr (ne, (from.after k j far).1 h)),
          ))
          (cases_eq k i);
    }
