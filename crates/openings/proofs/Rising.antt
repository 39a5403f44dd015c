-- The places of the references of a text rise from left to right.
use Rattle.std.proofs.Common.{◌≡◌, ℕ, ◌≤◌, ◌⊎◌, List, [], ◌∷◌, ◌++◌, sym, subst, inl, inr, ⊎_elim, arith}
use Rattle.lists.specs.Trees.{Sign}
use Rattle.lists.specs.Placed.{Placed, none, more}
use Rattle.openings.specs.References.{Reference, noted, references_of, Refers, RefersAt}
use Rattle.openings.specs.Opening.{Name}
use Rattle.openings.specs.MetReferences.{Named}
use Rattle.openings.proofs.Referring.{refers_one}

-- every reference is at the place or after it
abbrev From : ℕ → List Reference → Type 0
From at [] = Unit {0}
From at (r ∷ rs) = (at ≤ r.place) × From at rs

-- no reference is before one to its left
abbrev Rising : List Reference → Type 0
Rising [] = Unit {0}
Rising (r ∷ rs) = From r.place rs × Rising rs

from_lower : {at at' : ℕ} (rs : List Reference) → at ≤ at' → From at' rs → From at rs
from_lower [] le f = tt
from_lower (r ∷ rs) le f = (omega (arith, f.0), from_lower rs le f.1)

from_at : {at : ℕ} (before after : List Reference) (r : Reference) → From at (before ++ (r ∷ after)) → at ≤ r.place
from_at [] after r f = f.0
from_at (b ∷ before) after r f = from_at before after r f.1

-- one more token in front, which begins at a place or after it
from_noted : {at place : ℕ} (s : Sign) (rs : List Reference) → at ≤ place → From at rs → From at (noted place s rs)
from_noted s rs le f = grind arith

rising_noted : (place : ℕ) (s : Sign) (rs : List Reference) → From place rs → Rising rs → Rising (noted place s rs)
rising_noted place s rs f up = grind arith

-- the references of the tokens from a place on are at that place or after it
placed_from : {text : List ℕ} {at : ℕ} {ps : List (ℕ × Sign)} → Placed text at ps → From at (references_of ps)
placed_from (none g) = tt
placed_from (more {s = s} {ps = ps} t p) = from_noted s (references_of ps) t.gap.forward (from_lower (references_of ps) (omega (arith, t.gap.forward, t.some)) (placed_from p))

-- they rise
placed_rising : {text : List ℕ} {at : ℕ} {ps : List (ℕ × Sign)} → Placed text at ps → Rising (references_of ps)
placed_rising (none g) = tt
placed_rising (more {place = place} {s = s} {ps = ps} t p) = rising_noted place s (references_of ps) (from_lower (references_of ps) (omega (arith, t.some)) (placed_from p)) (placed_rising p)

refers_rising : {text : List ℕ} {rs : List Reference} → Refers text rs → Rising rs
refers_rising f = subst Rising (sym f.these) (placed_rising f.placed)

-- of two references, the second stands before the first, or it is at the first's place or after it
rising_split : (before after before' after' : List Reference) (r s : Reference) → before ++ (r ∷ after) ≡ before' ++ (s ∷ after') → Rising (before ++ (r ∷ after)) → Named before s.name ⊎ (r.place ≤ s.place)
rising_split [] after [] after' r s e up = let same : r.place ≡ s.place = cc in inr (omega arith)
rising_split [] after (b ∷ before') after' r s e up =
    let rest : after ≡ before' ++ (s ∷ after') = cc in
    inr (from_at before' after' s (subst (From r.place) rest up.0))
rising_split (b ∷ before) after [] after' r s e up = let same : b.name ≡ s.name = cc in inl (inl same)
rising_split (b ∷ before) after (b' ∷ before') after' r s e up =
    let rest : before ++ (r ∷ after) ≡ before' ++ (s ∷ after') = cc in
    ⊎_elim (λ n. inl (inr n)) (λ le. inr le) (rising_split before after before' after' r s rest up.1)

-- a text refers to a group before one of its references, or at its place or after it
pub refers_split : {text : List ℕ} {q : ℕ} {h : Name} (before after : List Reference) (r : Reference) → Refers text (before ++ (r ∷ after)) → RefersAt text q h → Named before h ⊎ (r.place ≤ q)
refers_split before after r f at = rising_split before after at.before at.after r _ (refers_one f at.refers) (refers_rising f)
