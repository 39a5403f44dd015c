-- The groups that a tree names are those that the references of its text name.
use Rattle.std.proofs.Common.{◌≡◌, ℕ, List, [], ◌∷◌, ◌++◌, sym, refl, ap, ◌∙◌, subst, inl, inr, append-nil}
use Rattle.std.specs.List.{AllByRecursion}
use Rattle.lists.specs.Trees.{Sign, atom, group, open_bracket, close_bracket, star, bar, Item, plain, bracket, starred, named, Seq, one, then, Alts, only, or, Tree, empty, list, item_signs, seq_signs, alts_signs}
use Rattle.lists.specs.Texts.{Reads, tree_signs}
use Rattle.lists.specs.Placed.{signs_of}
use Rattle.lists.proofs.Placing.{spells_placed}
use Rattle.openings.specs.References.{Reference, references_of, Refers}
use Rattle.openings.specs.Opening.{Name}
use Rattle.openings.specs.MetReferences.{Named}
use Rattle.derivations.specs.References.{item_groups, seq_groups, alts_groups, tree_groups}

-- a sign in front of names: a group's is one more, every other adds none
abbrev mentioned : Sign → List Name → List Name
mentioned (atom a) gs = gs
mentioned (group g) gs = g ∷ gs
mentioned open_bracket gs = gs
mentioned close_bracket gs = gs
mentioned star gs = gs
mentioned bar gs = gs

-- the groups that signs name, in order
abbrev mentions : List Sign → List Name
mentions [] = []
mentions (s ∷ ss) = mentioned s (mentions ss)

mentioned_append : (s : Sign) (gs hs : List Name) → mentioned s gs ++ hs ≡ mentioned s (gs ++ hs)
mentioned_append (atom a) gs hs = refl
mentioned_append (group g) gs hs = refl
mentioned_append open_bracket gs hs = refl
mentioned_append close_bracket gs hs = refl
mentioned_append star gs hs = refl
mentioned_append bar gs hs = refl

mentions_append : (ss ts : List Sign) → mentions (ss ++ ts) ≡ mentions ss ++ mentions ts
mentions_append [] ts = refl
mentions_append (s ∷ ss) ts = ap (mentioned s) (mentions_append ss ts) ∙ sym (mentioned_append s (mentions ss) (mentions ts))

-- the signs of a tree name the groups that the tree names
mutual
  item_mentions : (x : Item) → mentions (item_signs x) ≡ item_groups x
  item_mentions (plain a) = refl
  item_mentions (bracket l) = mentions_append (alts_signs l) (close_bracket ∷ []) ∙ append-nil (mentions (alts_signs l)) ∙ alts_mentions l
  item_mentions (starred x) = mentions_append (item_signs x) (star ∷ []) ∙ append-nil (mentions (item_signs x)) ∙ item_mentions x
  item_mentions (named g) = refl

  seq_mentions : (s : Seq) → mentions (seq_signs s) ≡ seq_groups s
  seq_mentions (one x) = item_mentions x
  seq_mentions (then s x) = mentions_append (seq_signs s) (item_signs x) ∙ (λ i. seq_mentions s i ++ item_mentions x i)

  alts_mentions : (l : Alts) → mentions (alts_signs l) ≡ alts_groups l
  alts_mentions (only s) = seq_mentions s
  alts_mentions (or l s) = mentions_append (alts_signs l) (bar ∷ seq_signs s) ∙ (λ i. alts_mentions l i ++ seq_mentions s i)

tree_mentions : (t : Tree) → mentions (tree_signs t) ≡ tree_groups t
tree_mentions empty = refl
tree_mentions (list l) = alts_mentions l

-- what holds of each group that a reference names holds of each that the signs name
mentions_named : (P : Name → Type 0) (qs : List (ℕ × Sign)) → ((g : Name) → Named (references_of qs) g → P g) → AllByRecursion P (mentions (signs_of qs))
mentions_named P [] h = tt
mentions_named P ((place, atom a) ∷ qs) h = mentions_named P qs h
mentions_named P ((place, group g) ∷ qs) h = (h g (inl refl), mentions_named P qs (λ f n. h f (inr n)))
mentions_named P ((place, open_bracket) ∷ qs) h = mentions_named P qs h
mentions_named P ((place, close_bracket) ∷ qs) h = mentions_named P qs h
mentions_named P ((place, star) ∷ qs) h = mentions_named P qs h
mentions_named P ((place, bar) ∷ qs) h = mentions_named P qs h

-- what holds of each group that a reference of the text names holds of each that the tree names
pub every_group : (P : Name → Type 0) {text : List ℕ} (tree : Tree) → Reads text tree → ((rs : List Reference) (g : Name) → Refers text rs → Named rs g → P g) → AllByRecursion P (tree_groups tree)
every_group P tree reads h =
    let (qs, (placed, signs)) = spells_placed reads in
    let all : AllByRecursion P (mentions (signs_of qs)) = mentions_named P qs (λ g n. h (references_of qs) g (record { tokens = qs; placed = placed; these = refl }) n) in
    subst (AllByRecursion P) (ap mentions signs ∙ tree_mentions tree) all
