-- What a text derives depends on the text only through the tree that it reads as.
use Rattle.std.proofs.Common.{ℕ, List, subst}
use Rattle.names.specs.Names.{Part}
use Rattle.lists.specs.Trees.{Tree}
use Rattle.lists.specs.Texts.{Reads}
use Rattle.lists.proofs.UniqueSpelling.{unique_tree}
use Rattle.books.specs.Tables.{Table}
use Rattle.derivations.specs.Derives.{TreeDerives, GroupOf, ListDerives}

module _ (Same : List ℕ → List ℕ → Type 0) where
  -- two trees that a text reads as derive the same
  pub one_reading : (Group : List ℕ → Tree → Type 0) (text : List ℕ) (a b : Tree) (ps : List Part) → Reads text a → Reads text b → TreeDerives Same Group a ps → TreeDerives Same Group b ps
  one_reading Group text a b ps r s d = subst (λ t. TreeDerives Same Group t ps) (unique_tree text a b r s) d

  -- two texts that read as one tree derive the same names
  pub one_tree : (table : Table) (s t name : List ℕ) (tree : Tree) → Reads s tree → Reads t tree → ListDerives Same table s name → ListDerives Same table t name
  one_tree table s t name tree r q d = record {
    tree = tree;
    reads = q;
    parts = d.parts;
    is_name = d.is_name;
    derives = one_reading (GroupOf table) s d.tree tree d.parts d.reads r d.derives;
  }
