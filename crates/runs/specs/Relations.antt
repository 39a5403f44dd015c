-- Relations between places.
use Rattle.std.specs.Prelude.{◌≡◌, ℕ, ◌+◌, ◌<◌, ◌≢◌, ◌⊎◌}
use Rattle.positions.specs.Places.{Has}

-- no place leads anywhere
abbrev pub Nowhere : ℕ → ℕ → Type 0
Nowhere i j = ⊥

-- each of the first places with itself
abbrev pub Identity : ℕ → ℕ → ℕ → Type 0
Identity count i j = (i < count) × (j ≡ i)

-- a relation, and another one from the first places
abbrev pub United : (ℕ → ℕ → Type 0) → ℕ → (ℕ → ℕ → Type 0) → ℕ → ℕ → Type 0
United Run count Other i j = Run i j ⊎ ((i < count) × Other i j)

-- a relation, with other ends of one start
abbrev pub Replaced : (ℕ → ℕ → Type 0) → ℕ → ℕ → ℕ → ℕ → Type 0
Replaced Run start ends i j = ((i ≡ start) × Has ends j) ⊎ ((i ≢ start) × Run i j)

-- a relation, and then one place further from a place of a set
abbrev pub Advanced : (ℕ → ℕ → Type 0) → ℕ → ℕ → ℕ → Type 0
Advanced Run places i j = (m : ℕ) × (j ≡ m + 1) × (j < 64) × Run i m × Has places m

-- a relation, and then another one
abbrev pub Composed : (ℕ → ℕ → Type 0) → (ℕ → ℕ → Type 0) → ℕ → ℕ → Type 0
Composed Run Next i j = (m : ℕ) × Run i m × Next m j

-- the places that a relation leads to from a set of places
abbrev pub Image : (ℕ → ℕ → Type 0) → ℕ → ℕ → Type 0
Image Run starts j = (m : ℕ) × Has starts m × Run m j

-- a relation any number of times
pub data Reach (Run : ℕ → ℕ → Type 0) : ℕ → ℕ → Type 0 where
  done : {i j : ℕ} → j ≡ i → Reach Run i j
  further : {i j : ℕ} (m : ℕ) → Run i m → Reach Run m j → Reach Run i j

-- a relation any number of times, from the first places
abbrev pub Closure : ℕ → (ℕ → ℕ → Type 0) → ℕ → ℕ → Type 0
Closure count Run i j = (i < count) × Reach Run i j
