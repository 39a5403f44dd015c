-- Which part is at a place.
use Rattle.std.proofs.Common.{◌≡◌, ℕ, zero, suc, ◌<◌, List, [], ◌∷◌, length, get_or, sym, refl, ap, ◌∙◌, inl, inr, ⊎_elim, arith}
use Rattle.std.proofs.lemmas.Slice.Eq.{bytes_eq-Decides}
use Rattle.std.proofs.lemmas.List.{get_or_default}
use Rattle.std.proofs.lemmas.Bool.{cases_lt}
use Rattle.std.specs.Str.{bytes_eq}
use Rattle.names.specs.Names.{Part, word, dot, at, plus}
use Rattle.names.proofs.Deciding.{Decided}
use Rattle.name_parts.specs.Slices.{PartAt}
use Rattle.name_parts.specs.Outlines.{WordAt}
use Rattle.name_parts.proofs.Mere.{decide_lt, decide_true, decide_pair, decide_as}

-- a part as a list of numbers, the first of which tells its kind
abbrev code : Part → List ℕ
code (word w) = 0 ∷ w
code dot = 1 ∷ []
code at = 2 ∷ []
code plus = 3 ∷ []

pub decode : List ℕ → Part
decode [] = dot
decode (zero ∷ w) = word w
decode (suc zero ∷ w) = dot
decode (suc (suc zero) ∷ w) = at
decode (suc (suc (suc n)) ∷ w) = plus

pub decode_code : (p : Part) → decode (code p) ≡ p
unfolding decode
decode_code (word w) = refl
decode_code dot = refl
decode_code at = refl
decode_code plus = refl

-- parts of two kinds are not the same
abbrev pub kind : Part → ℕ
kind p = get_or (code p) 0 0

same_or_not : (p q : Part) → Decided (p ≡ q)
same_or_not p q =
    let same = bytes_eq-Decides (code p) (code q) in
    decide_as (decide_true (bytes_eq (code p) (code q))) (λ t. sym (decode_code p) ∙ ap decode (same.0 t) ∙ decode_code q) (λ e. same.1 (ap code e))

module _ (ps : List Part) where
  -- some part is at each place
  pub part_here : (i : ℕ) (d : Part) → i < length ps → PartAt ps (get_or ps i d) i
  part_here i d lt = record { inside = lt; is = get_or_default ps i (get_or ps i d) d lt }

  -- one part is at a place
  pub part_one : (p q : Part) (i : ℕ) → PartAt ps p i → PartAt ps q i → p ≡ q
  part_one p q i a b = sym a.is ∙ get_or_default ps i p q a.inside ∙ b.is

  -- words that are at one place are one word
  pub word_one : (v w : List ℕ) (i : ℕ) → PartAt ps (word v) i → PartAt ps (word w) i → v ≡ w
  word_one v w i a b = let one : word v ≡ word w = part_one (word v) (word w) i a b in cc

  pub part_apart : (p q : Part) (i : ℕ) → PartAt ps p i → (kind p ≡ kind q → ⊥) → PartAt ps q i → ⊥
  part_apart p q i a other b = other (ap kind (part_one p q i a b))

  -- a part is at a place or not
  pub part_or_not : (p : Part) (i : ℕ) → Decided (PartAt ps p i)
  part_or_not p i =
      decide_as (decide_pair (decide_lt i (length ps)) (same_or_not (get_or ps i p) p)) (λ h. record { inside = h.0; is = h.1 }) (λ a. (a.inside, a.is))

  pub word_or_not : (i : ℕ) → Decided (WordAt ps i)
  word_or_not i = ⊎_elim (λ lt. by_part (get_or ps i dot) (part_here i dot lt)) (λ le. inr (λ a. omega (arith, a.1.inside))) (cases_lt i (length ps))
    where
      no_word : (p : Part) → PartAt ps p i → (kind p ≡ 0 → ⊥) → WordAt ps i → ⊥
      no_word p a other b = part_apart p (word b.0) i a other b.1

      by_part : (p : Part) → PartAt ps p i → Decided (WordAt ps i)
      by_part (word w) a = inl (w, a)
      by_part dot a = inr (no_word dot a (λ e. omega arith))
      by_part at a = inr (no_word at a (λ e. omega arith))
      by_part plus a = inr (no_word plus a (λ e. omega arith))
