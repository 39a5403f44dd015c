-- The groups of a table book, and the table that they are.
use Rattle.std.specs.Prelude.{ℕ, List, [], ◌∷◌, map, length}
use Rattle.texts.specs.Shown.{shown}
use Rattle.books.specs.declared.group.Group.{Group}
use Rattle.std.proofs.Common.{length-take, lit≤}
use native.Mathlib.Nat.{le_of_eq, le_trans, min-le_left}
use Rattle.books.specs.Tables.{Entry, Table, LawfulEntry, LawfulTable}

abbrev pub name_of : Group → List ℕ
name_of g = shown g.name.text

abbrev pub entry : Group → Entry
entry g = record { name = name_of g; text = shown g.text }

abbrev pub table_of : List Group → Table
table_of groups = map entry groups

-- such a table is lawful: a group's name has its form by its type, and its text has at most 512 bytes
group_lawful : (g : Group) → LawfulEntry (entry g)
group_lawful g = record {
  named = g.name.lawful;
  short = le_trans (le_of_eq (length-take g.text.len g.text.bytes)) (le_trans (min-le_left g.text.len (length g.text.bytes)) (le_trans g.text.bounded (lit≤ tt)));
}

pub groups_lawful : (groups : List Group) → LawfulTable (table_of groups)
groups_lawful [] = tt
groups_lawful (g ∷ gs) = (group_lawful g, groups_lawful gs)
