-- What is derived depends on a list only through the tree that it reads as, and the texts of the groups that it reached.
use Rattle.std.specs.Prelude.{◌≡◌, ℕ, List, Some}
use Rattle.std.specs.List.{AllByRecursion}
use Rattle.lists.specs.Trees.{Tree}
use Rattle.lists.specs.Texts.{Reads}
use Rattle.books.specs.Tables.{Table, text_of}
use Rattle.openings.specs.declared.opened.Opened.{Opened}
use Rattle.openings.specs.Answers.{list_of, groups_of}

-- The text reads as the tree of the opened list, and the table has the same texts for the groups that the list reached.
-- What else the table has does not matter.
pub record SameTreeAndGroups (o : Opened) (table : Table) (text : List ℕ) : Type 0 where
  pub tree : Tree
  pub list_reads : Reads (list_of o) tree
  pub text_reads : Reads text tree
  pub groups : AllByRecursion (λ e. text_of table e.name ≡ Some e.text) (groups_of o)
