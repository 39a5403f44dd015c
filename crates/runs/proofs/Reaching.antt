-- Laws of what a relation reaches.
use Rattle.std.proofs.Common.{ℕ, ◌≤◌, refl, subst, arith}
use Rattle.runs.specs.Relations.{Reach, done, further}

-- once is a number of times
pub reach_one : {Run : ℕ → ℕ → Type 0} {i j : ℕ} → Run i j → Reach Run i j
reach_one {j = j} run = further j run (done refl)

-- any number of times and then any number of times
pub reach_trans : {Run : ℕ → ℕ → Type 0} {i k j : ℕ} → Reach Run i k → Reach Run k j → Reach Run i j
reach_trans {Run} {j = j} (done e) r = subst (λ n. Reach Run n j) e r
reach_trans (further m a s) r = further m a (reach_trans s r)

-- what a part of a relation reaches, the relation reaches
pub reach_map : {Run More : ℕ → ℕ → Type 0} {i j : ℕ} → ((i j : ℕ) → Run i j → More i j) → Reach Run i j → Reach More i j
reach_map more (done e) = done e
reach_map {i = i} more (further m a r) = further m (more i m a) (reach_map more r)

-- a relation that does not go back reaches nothing before its start
pub reach_onward : {Run : ℕ → ℕ → Type 0} {i j : ℕ} → ((i j : ℕ) → Run i j → i ≤ j) → Reach Run i j → i ≤ j
reach_onward on (done e) = omega arith
reach_onward {i = i} on (further m a r) = let le = on i m a in let on-from = reach_onward on r in omega arith
