-- Relations that hold between the same places.
use Rattle.std.proofs.Common.{ℕ, ◌↔◌}
use Rattle.runs.specs.Relations.{Advanced, Composed, Reach}
use Rattle.runs.proofs.Reaching.{reach_map}

module _ {Run Same : ℕ → ℕ → Type 0} (same : (i j : ℕ) → Run i j ↔ Same i j) where
  pub advanced_same : (d : ℕ) (i j : ℕ) → Advanced Run d i j ↔ Advanced Same d i j
  advanced_same d i j = (λ (m, e, few, run, has). (m, e, few, (same i m).0 run, has), λ (m, e, few, run, has). (m, e, few, (same i m).1 run, has))

  pub reach_same : (i j : ℕ) → Reach Run i j ↔ Reach Same i j
  reach_same i j = (reach_map (λ i j. (same i j).0), reach_map (λ i j. (same i j).1))

  pub composed_same : {Next More : ℕ → ℕ → Type 0} → ((i j : ℕ) → Next i j ↔ More i j) → (i j : ℕ) → Composed Run Next i j ↔ Composed Same More i j
  composed_same on i j = (λ (m, run, more). (m, (same i m).0 run, (on m j).0 more), λ (m, run, more). (m, (same i m).1 run, (on m j).1 more))

  pub trans_same : {More : ℕ → ℕ → Type 0} → ((i j : ℕ) → Same i j ↔ More i j) → (i j : ℕ) → Run i j ↔ More i j
  trans_same on i j = (λ run. (on i j).0 ((same i j).0 run), λ more. (same i j).1 ((on i j).1 more))
