-- An outline with one more part.
use Rattle.std.proofs.Common.{◌≡◌, ℕ, ◌+◌, ◌<◌, ◌≢◌, ◌⊎◌, ◌↔◌, List, [], ◌∷◌, ◌++◌, length, get_or, set, sym, refl, ap, ◌∙◌, subst, inl, inr, ⊎_elim, arith, length-append, below_more, get_or-set_same, get_or-set_other}
use Rattle.std.proofs.Math.Seq.{get_or-append_seam}
use Rattle.std.proofs.lemmas.List.{get_or_append_left}
use Rattle.std.proofs.lemmas.Bool.{cases_eq}
use denote.Enum.Declared.{tag_of}
use Rattle.arrayvec.specs.ArrayVec.{ArrayVec}
use Rattle.names.specs.declared.part.Part.{Part as WalkedPart}
use Rattle.names.specs.Names.{Part, word, dot, at, plus}
use Rattle.names.specs.Parts.{part_of}
use Rattle.positions.specs.declared.Positions.{Positions}
use Rattle.positions.specs.Places.{Has}
use Rattle.positions.specs.Rows.{row_at}
use Rattle.name_parts.specs.contracts.mark.Mark.{the_type}
use Rattle.name_parts.specs.declared.mark.Mark.{Mark}
use Rattle.name_parts.specs.declared.mark.Mark.TheVariants.{Dot, At, Plus}
use Rattle.name_parts.specs.declared.outline.Outline.{Outline}
use Rattle.name_parts.specs.Marks.{part_of_mark, number_of}
use Rattle.name_parts.specs.Slices.{PartAt}
use Rattle.name_parts.specs.Outlines.{WordAt, start_of, Sees, count_of, mark_places, Outlined, Noted}
use Rattle.name_parts.proofs.Standing.{decode, decode_code, kind, part_apart}

module _ (Kind : ℕ → Type 0) (n d : ℕ) (sees : Sees Kind n d) where
  -- the next place is of the kind
  pub sees_hit : (d' : ℕ) → n < 64 → Kind n → ((j : ℕ) → Has d' j ↔ (Has d j ⊎ ((j ≡ n) × (n < 64)))) → Sees Kind (n + 1) d'
  sees_hit d' lt here more i = (
    λ h. ⊎_elim (λ was. (omega (arith, ((sees i).0 was).0), ((sees i).0 was).1)) (λ new. (omega (arith, new.0), subst Kind (sym new.0) here)) ((more i).0 h),
    λ k. ⊎_elim (λ (e : i ≡ n). (more i).1 (inr (e, lt))) (λ (ne : i ≢ n). let before : i < n = grind (arith, k.0) in (more i).1 (inl ((sees i).1 (before, k.1)))) (cases_eq i n),
  )

  -- the next place is of another kind
  pub sees_miss : (Kind n → ⊥) → Sees Kind (n + 1) d
  sees_miss other i = (
    λ h. (omega (arith, ((sees i).0 h).0), ((sees i).0 h).1),
    λ k. ⊎_elim (λ (e : i ≡ n). absurd (other (subst Kind e k.1))) (λ (ne : i ≢ n). let before : i < n = grind (arith, k.0) in (sees i).1 (before, k.1)) (cases_eq i n),
  )

-- one more part begins at a byte
pub starts_more : (ps : List Part) (starts starts' : List ℕ) (start : ℕ) → starts' ≡ starts ++ (start ∷ []) → start ≡ start_of ps (length starts) → ((i : ℕ) → i < length starts → get_or starts i 0 ≡ start_of ps i) → (i : ℕ) → i < length starts + 1 → get_or starts' i 0 ≡ start_of ps i
starts_more ps starts starts' start more here before =
    below_more (λ i. get_or starts' i 0 ≡ start_of ps i) (length starts)
    (λ i less. ap (λ l. get_or l i 0) more ∙ get_or_append_left starts (start ∷ []) 0 i less ∙ before i less)
    (ap (λ l. get_or l (length starts) 0) more ∙ get_or-append_seam starts start [] 0 ∙ here)

-- a mark cast to a number
pub tagged : (m : Mark) → tag_of the_type m ≡ number_of m
tagged Dot = refl
tagged At = refl
tagged Plus = refl

-- there are three marks
pub number_small : (m : Mark) → number_of m < 3
number_small Dot = omega arith
number_small At = omega arith
number_small Plus = omega arith

kind_of_mark : (m : Mark) → kind (part_of_mark m) ≡ number_of m + 1
kind_of_mark Dot = refl
kind_of_mark At = refl
kind_of_mark Plus = refl

number_below : (m : Mark) → number_of m < 3
number_below Dot = omega arith
number_below At = omega arith
number_below Plus = omega arith

-- marks of one number are the same part
mark_decoded : (m : Mark) → decode ((number_of m + 1) ∷ []) ≡ part_of_mark m
mark_decoded Dot = decode_code dot
mark_decoded At = decode_code at
mark_decoded Plus = decode_code plus

same_mark : (m k : Mark) → number_of m ≡ number_of k → part_of_mark m ≡ part_of_mark k
same_mark m k e = sym (mark_decoded m) ∙ ap (λ n. decode ((n + 1) ∷ [])) e ∙ mark_decoded k

-- a place is put into a set
abbrev pub Inserted : ℕ → ℕ → ℕ → Type 0
Inserted d n d' = (j : ℕ) → Has d' j ↔ (Has d j ⊎ ((j ≡ n) × (n < 64)))

module _ (o : Outline) (start : ℕ) (starts : ArrayVec ℕ) (more : starts.items ≡ o.starts.items ++ (start ∷ [])) where
  -- an outline with one more start, and other places of words
  abbrev pub with_word : Positions → Outline
  with_word words = record { starts = starts; words = words; marks = o.marks }

  -- an outline with one more start, and other places of the mark of a number
  abbrev pub with_mark : ℕ → Positions → Outline
  with_mark n places = record { starts = starts; words = o.words; marks = set o.marks n places }

  one_more : length starts.items ≡ count_of o + 1
  one_more = ap length more ∙ length-append o.starts.items (start ∷ [])

  -- an outline with these starts is that of one more part where its sets are
  module _ (ps : List Part) (p : Part) (was : Outlined ps o) (here : PartAt ps p (count_of o)) (begins : start ≡ start_of ps (count_of o)) where
    outlined_more : (o' : Outline) → o'.starts ≡ starts → Sees (WordAt ps) (count_of o + 1) o'.words.digits → ((m : Mark) → Sees (PartAt ps (part_of_mark m)) (count_of o + 1) (mark_places o' m).digits) → Outlined ps o'
    outlined_more o' same words marks =
        let long : count_of o' ≡ count_of o + 1 = ap (λ s. length s.items) same ∙ one_more in
        record {
          within = omega (arith, here.inside, long);
          starts = λ i lt. starts_more ps o.starts.items o'.starts.items start (ap (λ s. s.items) same ∙ more) begins was.starts i (omega (arith, long));
          words = subst (λ n. Sees (WordAt ps) n o'.words.digits) (sym long) words;
          marks = λ m. subst (λ n. Sees (PartAt ps (part_of_mark m)) n (mark_places o' m).digits) (sym long) (marks m);
        }

    no_word : (kind p ≡ 0 → ⊥) → Sees (WordAt ps) (count_of o + 1) o.words.digits
    no_word other = sees_miss (WordAt ps) (count_of o) o.words.digits was.words (λ a. part_apart ps p (word a.0) (count_of o) here other a.1)

    no_mark : (m : Mark) → (kind p ≡ kind (part_of_mark m) → ⊥) → Sees (PartAt ps (part_of_mark m)) (count_of o + 1) (mark_places o m).digits
    no_mark m other = sees_miss (PartAt ps (part_of_mark m)) (count_of o) (mark_places o m).digits (was.marks m) (part_apart ps p (part_of_mark m) (count_of o) here other)

  module _ (lt : count_of o < 64) (part : WalkedPart) where
    pub note_word : (w : List ℕ) (words : Positions) → part_of part ≡ word w → Inserted o.words.digits (count_of o) words.digits → Noted o start part (with_word words)
    note_word w words is grown = record {
      more = one_more;
      outlined = λ ps was at-it begins.
          let here : PartAt ps (word w) (count_of o) = subst (λ p. PartAt ps p (count_of o)) is at-it in
          outlined_more ps (word w) was here begins (with_word words) refl
          (sees_hit (WordAt ps) (count_of o) o.words.digits was.words words.digits lt (w, here) grown)
          (λ m. no_mark ps (word w) was here begins m (λ e. omega (arith, kind_of_mark m, e)));
    }

    pub note_mark : (mark : Mark) (n : ℕ) (places : Positions) → part_of part ≡ part_of_mark mark → n ≡ number_of mark → length o.marks ≡ 3 → Inserted (row_at o.marks n).digits (count_of o) places.digits → Noted o start part (with_mark n places)
    note_mark mark n places is numbered room grown = record {
      more = one_more;
      outlined = λ ps was at-it begins.
          let here : PartAt ps (part_of_mark mark) (count_of o) = subst (λ p. PartAt ps p (count_of o)) is at-it in
          outlined_more ps (part_of_mark mark) was here begins (with_mark n places) refl
          (no_word ps (part_of_mark mark) was here begins (λ e. omega (arith, kind_of_mark mark)))
          (seen ps was here begins);
    }
      where
        Seen : List Part → Mark → Positions → Type 0
        Seen ps k s = Sees (PartAt ps (part_of_mark k)) (count_of o + 1) s.digits

        seen : (ps : List Part) → Outlined ps o → PartAt ps (part_of_mark mark) (count_of o) → start ≡ start_of ps (count_of o) → (k : Mark) → Seen ps k (mark_places (with_mark n places) k)
        seen ps was here begins k =
            ⊎_elim
            (λ (e : number_of k ≡ n).
            let this : number_of k ≡ number_of mark = e ∙ numbered in
            let hit = sees_hit (PartAt ps (part_of_mark k)) (count_of o) (mark_places o k).digits (was.marks k) places.digits lt (subst (λ p. PartAt ps p (count_of o)) (sym (same_mark k mark this)) here) (subst (λ i. Inserted (row_at o.marks i).digits (count_of o) places.digits) (sym e) grown) in
            subst (Seen ps k) (sym (ap (row_at (set o.marks n places)) e ∙ get_or-set_same o.marks n places _ (omega (arith, room, numbered, number_below mark)))) hit)
            (λ (other : number_of k ≢ n). subst (Seen ps k) (sym (get_or-set_other o.marks n (number_of k) places _ other)) (no_mark ps (part_of_mark mark) was here begins k (λ e. other (omega (arith, e, kind_of_mark mark, kind_of_mark k, numbered)))))
            (cases_eq (number_of k) n)
