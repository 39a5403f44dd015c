-- A relation between places as rows: the set of the ends of each start.
use Rattle.std.specs.Prelude.{ℕ, ◌<◌, ◌≤◌, List}
use Rattle.positions.specs.declared.Positions.{Positions}
use Rattle.positions.specs.Rows.{At}

-- no run goes back
abbrev pub Onward : List Positions → ℕ → Type 0
Onward rows count = (i j : ℕ) → (i < count) × At rows i j → i ≤ j
