-- A set of places as one number.
use Rattle.std.specs.Prelude.{◌≡◌, ℕ, zero, suc, ◌/◌, ◌%◌, ◌<◌, ◌≤◌, ◌≢◌, ◌↔◌, Option, MatchOption}

-- a place is in the set where the binary digit there is set
unfoldable pub Has : ℕ → ℕ → Type 0
Has m zero = m % 2 ≡ 1
Has m (suc i) = Has (m / 2) i

-- the least place of a set
pub record First (m f : ℕ) : Type 0 where
  pub here : Has m f
  pub least : (i : ℕ) → Has m i → f ≤ i

-- a set of places below 64 taken apart: its least place, and the others
pub record Split (m f rest : ℕ) : Type 0 where
  pub first : First m f
  pub below : f < 64
  pub others : (i : ℕ) → Has rest i ↔ (Has m i × (i ≢ f))
  pub less : rest < m

-- One step of a walk over a set: it gives the least place and leaves the others. Where there is no place it gives none,
-- and leaves the set as it was.
abbrev pub Step : ℕ → Option ℕ → ℕ → Type 0
Step m given rest = MatchOption given (((i : ℕ) → Has m i → ⊥) × (rest ≡ m)) (λ f. Split m f rest)
