-- What is decided, and what follows from a mere statement: whatever is decided.
use Rattle.std.proofs.Common.{◌≡◌, ℕ, ◌<◌, ◌≤◌, Bool, true, inl, inr, ⊎_elim, arith}
use mathlib.Core.Logic.{∥∥₁_map}
use Rattle.std.proofs.lemmas.Bool.{cases_lt, cases_Bool, both_ways}
use Rattle.names.proofs.Deciding.{Decided, from_mere}

pub mere_out : {A B : Type 0} → ∥ A ∥₁ → Decided B → (A → B) → B
mere_out mere decided f = from_mere _ decided (∥∥₁_map mere f)

pub decide_lt : (m n : ℕ) → Decided (m < n)
decide_lt m n = ⊎_elim inl (λ le. inr (λ lt. omega arith)) (cases_lt m n)

pub decide_le : (m n : ℕ) → Decided (m ≤ n)
decide_le m n = ⊎_elim (λ lt. inr (λ le. omega arith)) inl (cases_lt n m)

pub decide_true : (b : Bool) → Decided (b ≡ true)
decide_true b = ⊎_elim inl (λ f. inr (both_ways b f)) (cases_Bool b)

pub decide_pair : {A B : Type 0} → Decided A → Decided B → Decided (A × B)
decide_pair (inl a) (inl b) = inl (a, b)
decide_pair (inl a) (inr never) = inr (λ h. never h.1)
decide_pair (inr never) b = inr (λ h. never h.0)

-- a statement that follows from one that is decided, and the other way round
pub decide_as : {A B : Type 0} → Decided A → (A → B) → (B → A) → Decided B
decide_as (inl a) on back = inl (on a)
decide_as (inr never) on back = inr (λ b. never (back b))
