-- Groups and their texts, as one table.
use Rattle.std.specs.Prelude.{ℕ, List, [], ◌∷◌}
use Rattle.books.specs.Tables.{Table}
use Rattle.openings.specs.Opening.{Name}

-- names with texts, each with the one at its own place, as many as the shorter of the two has
abbrev pub pairs : List Name → List (List ℕ) → Table
pairs [] texts = []
pairs (g ∷ gs) [] = []
pairs (g ∷ gs) (text ∷ texts) = record { name = g; text = text } ∷ pairs gs texts
