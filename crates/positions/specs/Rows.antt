-- Tables that hold a set of places in each row.
use Rattle.std.specs.Prelude.{ℕ, List, slice_index_or}
use Rattle.positions.specs.declared.Positions.{Positions}
use Rattle.positions.specs.Places.{Has}

-- the set in a row; a row that is not there holds no place
abbrev pub row_at : List Positions → ℕ → Positions
row_at rows i = slice_index_or rows i (record { digits = 0 })

-- a place is in a row
abbrev pub At : List Positions → ℕ → ℕ → Type 0
At rows i j = Has (row_at rows i).digits j
