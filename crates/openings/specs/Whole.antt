-- What is promised of every opened list.
use Rattle.std.specs.Prelude.{ℕ, ◌<◌, ◌↔◌, List, [], length, slice_index_or}
use Rattle.links.specs.declared.links.Links.{Links}
use Rattle.links.specs.Links.{Linked}
use Rattle.books.specs.Tables.{Table, text_of}
use Rattle.openings.specs.Circles.{LeadsOn}
use Rattle.openings.specs.Opened.{names_of, Opens}

-- The groups that a list reached open it by themselves: its references all lead to one of them, and never in a circle.
abbrev pub Whole : List ℕ → Table → Type 0
Whole list groups = Opens (text_of groups) list groups

-- the links say which group leads to which, in one step or more, by their numbers
abbrev pub Tells : Table → Links → Type 0
Tells groups leads = (i j : ℕ) → Linked leads i j ↔ ((i < length groups) × ((j < length groups) × LeadsOn (text_of groups) (slice_index_or (names_of groups) i []) (slice_index_or (names_of groups) j [])))
