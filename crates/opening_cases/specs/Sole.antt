-- A table of one group.
use Rattle.std.specs.Prelude.{ℕ, ◌≤◌, List, [], ◌∷◌, length}
use Rattle.lists.specs.Bytes.{IsGroupName}
use Rattle.books.specs.Tables.{Table, LawfulTable}

abbrev pub sole : List ℕ → List ℕ → Table
sole name text = record { name = name; text = text } ∷ []

pub sole_lawful : (name text : List ℕ) → ∥ IsGroupName name ∥₁ → length text ≤ 4095 → LawfulTable (sole name text)
sole_lawful name text named short = (record { named = named; short = short }, tt)
