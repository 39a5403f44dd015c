-- Relations that are written row by row.
use Rattle.std.proofs.Common.{◌≡◌, ℕ, ◌<◌, ◌↔◌, replicate, arith}
use lib.ListN.{get_or-replicate}
use Rattle.positions.specs.declared.Positions.{Positions}
use Rattle.positions.specs.Places.{Has}
use Rattle.positions.specs.Rows.{At}
use Rattle.runs.specs.declared.relation.Runs.{Runs}
use Rattle.runs.specs.Runs.{Becomes}

-- rows that are all empty have no place
pub at_empty : (n : ℕ) (e : Positions) → ((j : ℕ) → Has e.digits j → ⊥) → (i j : ℕ) → i < n → At (replicate n e) i j → ⊥
at_empty n e none i j lt h = none j (rw (get_or-replicate n i e (record { digits = 0 }) lt) at h)

-- a relation becomes the one that its rows hold
pub becomes : {old new : Runs} {Run : ℕ → ℕ → Type 0} → new.count ≡ old.count → ((i j : ℕ) → Run i j → i < old.count) → ((i : ℕ) → i < old.count → (j : ℕ) → At new.rows i j ↔ Run i j) → Becomes old new Run
becomes kept starts rows = record {
  kept = kept;
  ends = λ i j. (λ h. (rows i (omega arith) j).0 h.1, λ w. let lt = starts i j w in (omega arith, (rows i lt j).1 w));
}
