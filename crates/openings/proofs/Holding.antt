-- The names that an opening holds, as a list.
use Rattle.std.proofs.Common.{◌≡◌, ℕ, ◌+◌, ◌<◌, ◌≤◌, Bool, true, false, List, [], ◌∷◌, ◌++◌, length, take, set, is_some, Some, None, Option, sym, ap, ◌∙◌, add-one, arith, length-take, take-suc-set, MatchOption}
use mathlib.Core.List.{map-append}
use borrow.Author.Tests.{clash}
use lib.ListN.{length-map}
use Rattle.std.proofs.lemmas.List.{get_or-map, get_or_at, length-append}
use Rattle.std.proofs.lemmas.Grind.{common_steps}
use Rattle.std.proofs.lemmas.List.Quantifiers.{position-Some}
use Rattle.std.proofs.lemmas.List.Sums.{fails_before_first}
use Rattle.std.proofs.lemmas.Slice.Eq.{bytes_eq-Decides}
use Rattle.std.specs.List.{position, position_or_len}
use Rattle.std.specs.Str.{bytes_eq}
use Rattle.lists.specs.declared.group_name.GroupName.{GroupName}
use Rattle.openings.specs.declared.known.KnownGroups.{KnownGroups}
use Rattle.openings.specs.Opening.{Name, Numbered, Known}
use Rattle.openings.specs.Views.{name_of, names_in}
use Rattle.openings.specs.KnownNames.{known}
use Rattle.openings.specs.Membership.{having}

-- the first place of a name is its number
pub place_numbered : (ns : List GroupName) (g : Name) (r : Option ℕ) → r ≡ position (λ n. bytes_eq (name_of n) g) ns → MatchOption r (Known (names_in ns) g → ⊥) (λ k. Numbered (names_in ns) g k)
place_numbered [] g None e = λ known. absurd (omega (arith, known.1.below))
place_numbered [] g (Some k) e = let z : ◌≡◌ {A = ℕ} 0 1 = cc in absurd (omega arith)
place_numbered (n ∷ ns) g None e =
    let Is : GroupName → Bool = λ n. bytes_eq (name_of n) g in
    let all : length (n ∷ ns) ≤ position_or_len Is (n ∷ ns) = grind (arith, common_steps) in
    λ known.
    let lt : known.0 < length (n ∷ ns) = omega (arith, known.1.below, length-map (n ∷ ns) name_of) in
    clash (sym (fails_before_first Is (n ∷ ns) known.0 n (omega arith)) ∙ (bytes_eq-Decides _ g).1 (sym (get_or-map name_of (n ∷ ns) known.0 n [] lt) ∙ known.1.is))
place_numbered (n ∷ ns) g (Some k) e =
    let at = position-Some (λ n. bytes_eq (name_of n) g) (n ∷ ns) k n (sym e) in
    record { below = omega (arith, at.0, length-map (n ∷ ns) name_of); is = get_or-map name_of (n ∷ ns) k n [] at.0 ∙ (bytes_eq-Decides _ g).0 at.1 }

pub known_count : (k : KnownGroups) → length (known k) ≡ k.count
known_count k = length-map (take k.count k.names) name_of ∙ length-take k.count k.names ∙ omega (arith, k.few, k.room)

-- one name more
pub names_more : (K : KnownGroups) (n : GroupName) (g : Name) → length (known K) < 32 → name_of n ≡ g → names_in (take (K.count + 1) (set K.names K.count n)) ≡ known K ++ (g ∷ [])
names_more K n g few held =
    let room : K.count < length K.names = omega (arith, K.room, known_count K, few) in
    ap (λ k. names_in (take k (set K.names K.count n))) (add-one K.count) ∙ ap names_in (take-suc-set K.names K.count n room) ∙ map-append name_of (take K.count K.names) (n ∷ []) ∙ ap (λ h. known K ++ (h ∷ [])) held

-- the last name has the last number
pub last_numbered : (gs : List Name) (g : Name) (n : ℕ) → length gs ≡ n → Numbered (gs ++ (g ∷ [])) g n
last_numbered gs g n e = record { below = omega (arith, length-append gs (g ∷ [])); is = get_or_at gs g [] [] n e }

-- a name that is there is had, and no other is
module _ (has : Name → Bool) (g : Name) where
  pub had : has g ≡ true → is_some (having has g) ≡ true
  had e = grind (arith, common_steps)

  pub not_had : has g ≡ false → having has g ≡ None
  not_had e = grind (arith, common_steps)
