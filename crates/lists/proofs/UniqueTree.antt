-- Signs have one tree: the tree that is built from the signs of a tree is that tree.
use Rattle.std.proofs.Common.{◌≡◌, List, [], ◌∷◌, ◌++◌, refl, ap, ◌∙◌}
use Rattle.lists.specs.Trees.{Sign, close_bracket, star, bar, Item, plain, bracket, starred, named, Seq, one, then, Alts, only, or, item_signs, seq_signs, alts_signs}
use Rattle.lists.proofs.Build.{Level, fresh, barred, full, Place, inside, put, place_step, build}

-- one building after another
build_both : (p q r : Place) (s t : List Sign) → build p s ≡ q → build q t ≡ r → build p (s ++ t) ≡ r
build_both p q r [] t e f = ap (λ x. build x t) e ∙ f
build_both p q r (x ∷ s) t e f = build_both (place_step p x) q r s t e f

-- a star behind an item that was put last
put_star : (us : List Level) (u : Level) (x : Item) → place_step (inside us (put u x)) star ≡ inside us (put u (starred x))
put_star us fresh x = refl
put_star us (barred l) x = refl
put_star us (full (only s)) x = refl
put_star us (full (or l s)) x = refl

-- each item of a sequence put in order
abbrev pub puts : Level → Seq → Level
puts u (one x) = put u x
puts u (then s x) = put (puts u s) x

-- the items of a sequence make it, on a fresh level or behind a bar
pub puts_fresh : (s : Seq) → puts fresh s ≡ full (only s)
puts_fresh (one x) = refl
puts_fresh (then s x) = ap (λ u. put u x) (puts_fresh s)

pub puts_barred : (l : Alts) (s : Seq) → puts (barred l) s ≡ full (or l s)
puts_barred l (one x) = refl
puts_barred l (then s x) = ap (λ u. put u x) (puts_barred l s)

-- the signs of a tree build that tree
mutual
  build_item : (us : List Level) (u : Level) (x : Item) → build (inside us u) (item_signs x) ≡ inside us (put u x)
  build_item us u (plain a) = refl
  build_item us u (bracket l) = build_both _ _ _ (alts_signs l) (close_bracket ∷ []) (build_alts (u ∷ us) l) refl
  build_item us u (starred x) = build_both _ _ _ (item_signs x) (star ∷ []) (build_item us u x) (put_star us u x)
  build_item us u (named g) = refl

  build_seq : (us : List Level) (u : Level) (s : Seq) → build (inside us u) (seq_signs s) ≡ inside us (puts u s)
  build_seq us u (one x) = build_item us u x
  build_seq us u (then s x) = build_both _ _ _ (seq_signs s) (item_signs x) (build_seq us u s) (build_item us (puts u s) x)

  pub build_alts : (us : List Level) (l : Alts) → build (inside us fresh) (alts_signs l) ≡ inside us (full l)
  build_alts us (only s) = build_seq us fresh s ∙ ap (inside us) (puts_fresh s)
  build_alts us (or l s) = build_both _ _ _ (alts_signs l) (bar ∷ seq_signs s) (build_alts us l) (build_seq us (barred l) s ∙ ap (inside us) (puts_barred l s))

-- signs have one tree
pub unique_alts : (l m : Alts) → alts_signs l ≡ alts_signs m → l ≡ m
unique_alts l m e = cc (build_alts [] l, build_alts [] m)
