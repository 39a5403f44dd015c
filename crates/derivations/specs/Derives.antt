-- What an access list derives. Derivation runs over the parts of a name, and runs of parts are joined by `◌++◌`.
use Rattle.std.specs.Prelude.{◌≡◌, ℕ, List, [], ◌∷◌, ◌++◌, Some}
use Rattle.names.specs.Names.{Part, word, dot, at, plus, Partial, IsName}
use Rattle.lists.specs.Trees
use Rattle.lists.specs.Trees.{Atom, any, Item, plain, bracket, starred, named, Seq, one, then, Alts, only, or, Tree, list}
use Rattle.lists.specs.Texts.{Reads}
use Rattle.books.specs.Tables.{Table, text_of}

-- `Same` is how a word of a list is compared with a word of a name.
module _ (Same : List ℕ → List ℕ → Type 0) where
  -- A word, `.`, `@` or `+` derives the one equal part. `!` derives any partial name.
  pub data AtomDerives : Atom → List Part → Type 0 where
    a_word : {w v : List ℕ} → Same w v → AtomDerives (Trees.word w) (word v ∷ [])
    a_dot : AtomDerives Trees.dot (dot ∷ [])
    an_at : AtomDerives Trees.at (at ∷ [])
    a_plus : AtomDerives Trees.plus (plus ∷ [])
    a_partial : {ps : List Part} → Partial ps → AtomDerives any ps

  -- `Group` says which tree a group's name stands for.
  module _ (Group : List ℕ → Tree → Type 0) where
    mutual
      -- A bracket derives what its inside derives. A starred item derives zero or more runs, each derived by the
      -- item, joined. A group reference derives what the group derives, as one unit.
      pub data ItemDerives : Item → List Part → Type 0 where
        by_atom : {a : Atom} {ps : List Part} → AtomDerives a ps → ItemDerives (plain a) ps
        by_bracket : {l : Alts} {ps : List Part} → AltsDerives l ps → ItemDerives (bracket l) ps
        no_runs : {x : Item} → ItemDerives (starred x) []
        more_runs : {x : Item} {ps qs : List Part} → ItemDerives x ps → ItemDerives (starred x) qs → ItemDerives (starred x) (ps ++ qs)
        by_group : {g : List ℕ} {t : Tree} {ps : List Part} → Group g t → TreeDerives t ps → ItemDerives (named g) ps

      -- a Seq derives the joined runs of its items, in order
      pub data SeqDerives : Seq → List Part → Type 0 where
        by_item : {x : Item} {ps : List Part} → ItemDerives x ps → SeqDerives (one x) ps
        by_items : {s : Seq} {x : Item} {ps qs : List Part} → SeqDerives s ps → ItemDerives x qs → SeqDerives (then s x) (ps ++ qs)

      -- a List derives what one of its Seqs derives
      pub data AltsDerives : Alts → List Part → Type 0 where
        by_only : {s : Seq} {ps : List Part} → SeqDerives s ps → AltsDerives (only s) ps
        by_earlier : {l : Alts} {s : Seq} {ps : List Part} → AltsDerives l ps → AltsDerives (or l s) ps
        by_last : {l : Alts} {s : Seq} {ps : List Part} → SeqDerives s ps → AltsDerives (or l s) ps

      -- a text without items derives nothing, not even the empty run
      pub data TreeDerives : Tree → List Part → Type 0 where
        by_list : {l : Alts} {ps : List Part} → AltsDerives l ps → TreeDerives (list l) ps

-- the trees that the groups of a table stand for: the table has a text for the name, and the text reads as the tree
abbrev pub GroupOf : Table → List ℕ → Tree → Type 0
GroupOf table g t = (text : List ℕ) × ((text_of table g ≡ Some text) × Reads text t)

-- the list text derives the name: the tree that it reads as derives all the name's parts
pub record ListDerives (Same : List ℕ → List ℕ → Type 0) (table : Table) (text name : List ℕ) : Type 0 where
  pub tree : Tree
  pub reads : Reads text tree
  pub parts : List Part
  pub is_name : IsName name parts
  pub derives : TreeDerives Same (GroupOf table) tree parts
