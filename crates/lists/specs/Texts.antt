-- List texts: the tree that a text reads as, and which texts are lawful.
use Rattle.std.specs.Prelude.{◌≡◌, ℕ, ◌≤◌, List, [], length}
use Rattle.lists.specs.Trees.{Sign, Tree, empty, list, Alts, alts_signs, alts_depth}
use Rattle.lists.specs.Tokens.{Spells}

abbrev pub tree_signs : Tree → List Sign
tree_signs empty = []
tree_signs (list l) = alts_signs l

abbrev pub tree_depth : Tree → ℕ
tree_depth empty = 0
tree_depth (list l) = alts_depth l

-- the text reads as the tree: their signs are the same
abbrev pub Reads : List ℕ → Tree → Type 0
Reads text tree = Spells text (tree_signs tree)

-- a list that has an item: the grammar's texts, with brackets at most 16 deep
pub record ItemText (text : List ℕ) : Type 0 where
  pub alts : Alts
  pub spells : Spells text (alts_signs alts)
  pub shallow : alts_depth alts ≤ 16

-- a text that is lawful but for its length: one without items too
pub record ListText (text : List ℕ) : Type 0 where
  pub tree : Tree
  pub reads : Reads text tree
  pub shallow : tree_depth tree ≤ 16

-- a lawful text has at most 512 bytes
pub record LawfulList (text : List ℕ) : Type 0 where
  pub form : ListText text
  pub short : length text ≤ 512

-- the text reads as one tree at most
abbrev pub OneReading : List ℕ → Type 0
OneReading text = (a b : Tree) → Reads text a → Reads text b → a ≡ b
