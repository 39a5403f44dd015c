-- Which groups there are, and what is supposed of those of which no more is known.
use Rattle.std.specs.Prelude.{◌≡◌, ℕ, Bool, cond, List, [], is_some, Some, None, Option}
use Rattle.books.specs.Tables.{Table, text_of}
use Rattle.openings.specs.Opening.{Name, Meaning, Known}

-- a meaning that has these names, each with an empty text
abbrev pub having : (Name → Bool) → Meaning
having has name = cond (has name) (Some []) None

-- a meaning has the names that are there, of those that are not known yet
abbrev pub Agrees : List Name → (Name → Bool) → Meaning → Type 0
Agrees gs has M = (g : Name) → (Known gs g → ⊥) → has g ≡ is_some (M g)

-- a text, or the empty one where there is none
abbrev pub or_empty : Option (List ℕ) → Option (List ℕ)
or_empty None = Some []
or_empty (Some t) = Some t

-- the meaning that has the texts of these groups, and every other name with an empty text
abbrev pub supposing : Table → Meaning
supposing groups name = or_empty (text_of groups name)
