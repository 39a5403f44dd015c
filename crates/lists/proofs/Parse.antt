-- What the machine accepts is a tree: the tree that is built has the signs that were read.
use Rattle.std.proofs.Common.{◌≡◌, ℕ, suc, ◌+◌, ◌-◌, ◌<◌, ◌≤◌, max, Bool, true, false, ltb, List, [], ◌∷◌, ◌++◌, length, Some, None, Option, sym, refl, ap, ◌∙◌, subst, append_assoc, append-nil, arith}
use Prim.{Unit, tt}
use Rattle.std.proofs.lemmas.Bool.{cond_both, ltb-true}
use Rattle.lists.specs.Trees.{Sign, atom, group, open_bracket, close_bracket, star, bar, Item, plain, bracket, named, one, then, Alts, only, or, item_signs, alts_signs, item_depth, alts_depth}
use Rattle.lists.specs.Machine.{At, within, sign_step}
use Rattle.lists.proofs.Signs.{sign_run, sign_run_none}
use Rattle.lists.proofs.Build.{Level, fresh, barred, full, Place, inside, put, star_alts, place_step}

-- the signs that a level and a place hold
abbrev level_signs : Level → List Sign
level_signs fresh = []
level_signs (barred l) = alts_signs l ++ (bar ∷ [])
level_signs (full l) = alts_signs l

abbrev outer_signs : List Level → List Sign
outer_signs [] = []
outer_signs (u ∷ us) = outer_signs us ++ (level_signs u ++ (open_bracket ∷ []))

abbrev place_signs : Place → List Sign
place_signs (inside us u) = outer_signs us ++ level_signs u

-- the machine's state at a place
abbrev is_due : Level → Bool
is_due fresh = true
is_due (barred l) = true
is_due (full l) = false

abbrev state : Place → At
state (inside us u) = within (length us) (is_due u)

-- how deep the tree of a level is
abbrev level_depth : Level → ℕ
level_depth fresh = 0
level_depth (barred l) = alts_depth l
level_depth (full l) = alts_depth l

-- no level is deeper than the brackets around it leave room for
abbrev Fit : List Level → Type 0
Fit [] = Unit {0}
Fit (u ∷ us) = (length us + level_depth u ≤ 16) × Fit us

abbrev Fits : Place → Type 0
Fits (inside us u) = Fit (u ∷ us)

-- a level has grown by the signs t, and is no deeper than n or than it was
record Grown (u v : Level) (t : List Sign) (n : ℕ) (due : Bool) : Type 0 where
  held : level_signs v ≡ level_signs u ++ t
  depth : level_depth v ≤ max (level_depth u) n
  after : is_due v ≡ due

-- by an item
put_grown : (u : Level) (x : Item) → Grown u (put u x) (item_signs x) (item_depth x) false
put_grown fresh x = record { held = refl; depth = omega arith; after = refl }
put_grown (barred l) x = record { held = simp append_assoc; depth = omega arith; after = refl }
put_grown (full (only s)) x = record { held = refl; depth = omega arith; after = refl }
put_grown (full (or l s)) x = record { held = simp append_assoc; depth = omega arith; after = refl }

-- by a star
star_grown : (l : Alts) → Grown (full l) (full (star_alts l)) (star ∷ []) 0 false
star_grown (only (one x)) = record { held = refl; depth = omega arith; after = refl }
star_grown (only (then s x)) = record { held = simp append_assoc; depth = omega arith; after = refl }
star_grown (or l (one x)) = record { held = simp append_assoc; depth = omega arith; after = refl }
star_grown (or l (then s x)) = record { held = simp append_assoc; depth = omega arith; after = refl }

-- by a bar
bar_grown : (l : Alts) → Grown (full l) (barred l) (bar ∷ []) 0 true
bar_grown l = record { held = refl; depth = omega arith; after = refl }

-- a sign has led from p to q, which holds it too and is where the machine stands
record Led (p q : Place) (s : Sign) (a : At) : Type 0 where
  held : place_signs q ≡ place_signs p ++ (s ∷ [])
  fits : Fits q
  stands : state q ≡ a

-- where the machine takes the sign, it has led from p to q
abbrev Kept : Place → Place → Sign → Option At → Type 0
Kept p q s None = Unit {0}
Kept p q s (Some a) = Led p q s a

-- a sign by which a level grows leads on
grown_led : (us : List Level) (u v : Level) (s : Sign) (due : Bool) → Fits (inside us u) → Grown u v (s ∷ []) 0 due → Led (inside us u) (inside us v) s (within (length us) due)
grown_led us u v s due f g = record {
  held = simp (g.held, append_assoc);
  fits = (omega arith, f.1);
  stands = ap (within (length us)) g.after;
}

-- a bracket that opens leads to a fresh level
open_led : (us : List Level) (u : Level) → length us < 16 → Fits (inside us u) → Led (inside us u) (inside (u ∷ us) fresh) open_bracket (within (length us + 1) true)
open_led us u room f = record {
  held = simp (append-nil, append_assoc);
  fits = (omega arith, f);
  stands = ap (λ n. within n true) (omega arith);
}

-- a bracket that closes is an item of the level around it
close_led : (us : List Level) (u : Level) (l : Alts) → Fits (inside (u ∷ us) (full l)) → Led (inside (u ∷ us) (full l)) (inside us (put u (bracket l))) close_bracket (within (suc (length us) - 1) false)
close_led us u l f = let g = put_grown u (bracket l) in record {
  held = simp (g.held, append_assoc);
  fits = (omega arith, f.1.1);
  stands = ap (within (length us)) g.after ∙ ap (λ n. within n false) (omega arith);
}

-- each sign that the machine takes leads on
step_kept : (p : Place) (s : Sign) → Fits p → Kept p (place_step p s) s (sign_step (state p) s)
step_kept (inside us u) (atom a) f = grown_led us u _ (atom a) false f (put_grown u (plain a))
step_kept (inside us u) (group g) f = grown_led us u _ (group g) false f (put_grown u (named g))
step_kept (inside us u) open_bracket f = cond_both (ltb (length us) 16) _ _ (Kept (inside us u) _ open_bracket) (λ room. open_led us u (ltb-true (length us) 16 room) f) (λ _. tt)
step_kept (inside us fresh) close_bracket f = tt
step_kept (inside us (barred l)) close_bracket f = tt
step_kept (inside [] (full l)) close_bracket f = tt
step_kept (inside (u ∷ us) (full l)) close_bracket f = cond_both (ltb 0 (suc (length us))) _ _ (Kept (inside (u ∷ us) (full l)) _ close_bracket) (λ _. close_led us u l f) (λ _. tt)
step_kept (inside us fresh) star f = tt
step_kept (inside us (barred l)) star f = tt
step_kept (inside us (full l)) star f = grown_led us (full l) _ star false f (star_grown l)
step_kept (inside us fresh) bar f = tt
step_kept (inside us (barred l)) bar f = tt
step_kept (inside us (full l)) bar f = grown_led us (full l) _ bar true f (bar_grown l)

-- t is the signs of a list, no deeper than 16 brackets
abbrev Parsed : List Sign → Type 0
Parsed t = (l : Alts) × ((alts_signs l ≡ t) × (alts_depth l ≤ 16))

-- the machine ends where no bracket is open and no item is due
abbrev Ends : Option At → List Sign → Type 0
Ends o ss = sign_run o ss ≡ Some (within 0 false)

-- the rest is read from where a sign has led
parse_next : (ss : List Sign) (p q : Place) (s : Sign) (o : Option At) → Kept p q s o → Ends o ss → (Fits q → Ends (Some (state q)) ss → Parsed (place_signs q ++ ss)) → Parsed (place_signs p ++ (s ∷ ss))
parse_next ss p q s None k e rest = let z : ◌≡◌ {A = ℕ} 0 1 = cc (sign_run_none ss) in absurd (omega arith)
parse_next ss p q s (Some a) k e rest =
    subst Parsed (ap (λ t. t ++ ss) k.held ∙ append_assoc (place_signs p) (s ∷ []) ss) (rest k.fits (ap (λ b. sign_run (Some b) ss) k.stands ∙ e))

-- what stands at a place and is read to the end is a list
parse_from : (ss : List Sign) (p : Place) → Fits p → Ends (Some (state p)) ss → Parsed (place_signs p ++ ss)
parse_from [] (inside [] fresh) f e = let z : ◌≡◌ {A = ℕ} 0 1 = cc in absurd (omega arith)
parse_from [] (inside [] (barred l)) f e = let z : ◌≡◌ {A = ℕ} 0 1 = cc in absurd (omega arith)
parse_from [] (inside [] (full l)) f e = (l, (sym (append-nil (alts_signs l)), omega arith))
parse_from [] (inside (u ∷ us) v) f e = let z : suc (length us) ≡ 0 = cc in absurd (omega arith)
parse_from (s ∷ ss) p f e = parse_next ss p _ s _ (step_kept p s f) e (parse_from ss (place_step p s))

-- what the machine accepts is a tree
pub parse : (ss : List Sign) → sign_run (Some (within 0 true)) ss ≡ Some (within 0 false) → (l : Alts) × ((alts_signs l ≡ ss) × (alts_depth l ≤ 16))
parse ss e = parse_from ss (inside [] fresh) (omega arith, tt) e
