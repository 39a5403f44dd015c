-- The tree that signs make, built from the front: what stands within each open bracket so far.
use Rattle.std.proofs.Common.{List, [], ◌∷◌}
use Rattle.lists.specs.Trees.{Sign, atom, group, open_bracket, close_bracket, star, bar, Item, plain, bracket, starred, named, Seq, one, then, Alts, only, or}

-- what stands within one bracket: nothing yet, a list and a bar, or a list
pub data Level : Type 0 where
  fresh : Level
  barred : Alts → Level
  full : Alts → Level

-- the levels around, innermost first, and the level that is being read
pub data Place : Type 0 where
  inside : List Level → Level → Place

-- one item more at the end
abbrev pub put : Level → Item → Level
put fresh x = full (only (one x))
put (barred l) x = full (or l (one x))
put (full (only s)) x = full (only (then s x))
put (full (or l s)) x = full (or l (then s x))

-- a star behind the last item
abbrev pub star_seq : Seq → Seq
star_seq (one x) = one (starred x)
star_seq (then s x) = then s (starred x)

abbrev pub star_alts : Alts → Alts
star_alts (only s) = only (star_seq s)
star_alts (or l s) = or l (star_seq s)

-- the place after one sign; a sign that cannot stand there changes nothing
abbrev pub place_step : Place → Sign → Place
place_step (inside us u) (atom a) = inside us (put u (plain a))
place_step (inside us u) (group g) = inside us (put u (named g))
place_step (inside us u) open_bracket = inside (u ∷ us) fresh
place_step (inside us fresh) close_bracket = inside us fresh
place_step (inside us (barred l)) close_bracket = inside us (barred l)
place_step (inside [] (full l)) close_bracket = inside [] (full l)
place_step (inside (u ∷ us) (full l)) close_bracket = inside us (put u (bracket l))
place_step (inside us fresh) star = inside us fresh
place_step (inside us (barred l)) star = inside us (barred l)
place_step (inside us (full l)) star = inside us (full (star_alts l))
place_step (inside us fresh) bar = inside us fresh
place_step (inside us (barred l)) bar = inside us (barred l)
place_step (inside us (full l)) bar = inside us (barred l)

-- the place after each sign in order
abbrev pub build : Place → List Sign → Place
build p [] = p
build p (s ∷ ss) = build (place_step p s) ss
