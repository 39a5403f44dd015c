-- The groups that a tree names, in order.
use Rattle.std.specs.Prelude.{ℕ, List, [], ◌∷◌, ◌++◌}
use Rattle.lists.specs.Trees.{Item, plain, bracket, starred, named, Seq, one, then, Alts, only, or, Tree, empty, list}

abbrev mutual
  pub item_groups : Item → List (List ℕ)
  item_groups (plain a) = []
  item_groups (bracket l) = alts_groups l
  item_groups (starred x) = item_groups x
  item_groups (named g) = g ∷ []

  pub seq_groups : Seq → List (List ℕ)
  seq_groups (one x) = item_groups x
  seq_groups (then s x) = seq_groups s ++ item_groups x

  pub alts_groups : Alts → List (List ℕ)
  alts_groups (only s) = seq_groups s
  alts_groups (or l s) = alts_groups l ++ seq_groups s

abbrev pub tree_groups : Tree → List (List ℕ)
tree_groups empty = []
tree_groups (list l) = alts_groups l
