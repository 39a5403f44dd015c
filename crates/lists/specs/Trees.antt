-- Lists by their signs, and the tree that a list is: the grammar as a type.
use Rattle.std.specs.Prelude.{ℕ, suc, max, List, [], ◌∷◌, ◌++◌}

pub data Atom : Type 0 where
  word : List ℕ → Atom
  dot : Atom
  at : Atom
  plus : Atom
  any : Atom

-- a sign of a list text
pub data Sign : Type 0 where
  atom : Atom → Sign
  group : List ℕ → Sign
  open_bracket : Sign
  close_bracket : Sign
  star : Sign
  bar : Sign

-- Item = Atom, `(` List `)`, Item `*`, or `{` group name `}`
-- Seq = Item, or Seq Item
-- List = Seq, or List `|` Seq; its type is `Alts`, for its alternatives
mutual
  pub data Item : Type 0 where
    plain : Atom → Item
    bracket : Alts → Item
    starred : Item → Item
    named : List ℕ → Item

  pub data Seq : Type 0 where
    one : Item → Seq
    then : Seq → Item → Seq

  pub data Alts : Type 0 where
    only : Seq → Alts
    or : Alts → Seq → Alts

-- the signs in order
abbrev mutual
  pub item_signs : Item → List Sign
  item_signs (plain a) = atom a ∷ []
  item_signs (bracket l) = open_bracket ∷ (alts_signs l ++ (close_bracket ∷ []))
  item_signs (starred x) = item_signs x ++ (star ∷ [])
  item_signs (named g) = group g ∷ []

  pub seq_signs : Seq → List Sign
  seq_signs (one x) = item_signs x
  seq_signs (then s x) = seq_signs s ++ item_signs x

  pub alts_signs : Alts → List Sign
  alts_signs (only s) = seq_signs s
  alts_signs (or l s) = alts_signs l ++ (bar ∷ seq_signs s)

-- how deep the brackets are
abbrev mutual
  pub item_depth : Item → ℕ
  item_depth (plain a) = 0
  item_depth (bracket l) = suc (alts_depth l)
  item_depth (starred x) = item_depth x
  item_depth (named g) = 0

  pub seq_depth : Seq → ℕ
  seq_depth (one x) = item_depth x
  seq_depth (then s x) = max (seq_depth s) (item_depth x)

  pub alts_depth : Alts → ℕ
  alts_depth (only s) = seq_depth s
  alts_depth (or l s) = max (alts_depth l) (seq_depth s)

-- the whole of a text: without items, or a list
pub data Tree : Type 0 where
  empty : Tree
  list : Alts → Tree
