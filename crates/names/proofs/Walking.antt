-- What stands at a place of a name where a part begins.
use Rattle.std.proofs.Common.{◌≡◌, ℕ, ◌+◌, ◌-◌, ◌<◌, ◌≤◌, true, false, List, [], ◌∷◌, ◌++◌, length, get_or, take, drop, Some, None, Option, sym, refl, ap, ◌∙◌, subst, ⊎_elim, append_assoc, append-nil, arith, length-append, length-drop, ne_eqb}
use borrow.Author.Tests.{clash}
use Rattle.std.proofs.ByRecursion.{All-get_or}
use Rattle.std.proofs.lemmas.List.{get_or-drop, length-take-le, take_at, drop_at, get_or_append_left, get_or-append-add}
use Rattle.std.proofs.lemmas.Bool.{cond-false, cases_order}
use Rattle.std.proofs.lemmas.List.Sums.{prefix_len-le-length, prefix_len_passes, prefix_len_stops}
use Rattle.std.specs.List.{between, prefix_len, take_while}
use Rattle.names.specs.declared.part.Part.{Part as WalkedPart}
use Rattle.names.specs.Words.{word_byte, WordBytes, Word}
use Rattle.names.specs.Names.{Part, word, plus, bytes_of, spell, Steps}
use Rattle.names.specs.Parts.{AtPart, part_of, WordEnd, Walks}
use Rattle.names.proofs.Forms.{mark_apart, spell_append}
use Rattle.names.proofs.Places.{Mark, Alternates, last, next, alternates, mark_of, mark_of_lem}

-- a part and the parts behind it: behind a word no word byte follows
data Begun : Part → List Part → Type 0 where
  begun_word : {w : List ℕ} {back : List Part} → Word w → (0 < length (spell back) → word_byte (get_or (spell back) 0 0) ≡ false) → Begun (word w) back
  begun_mark : {m : Part} {back : List Part} (b : ℕ) → Mark m b → Begun m back

begun : (front : List Part) (p : Part) (back : List Part) → Alternates (front ++ (p ∷ back)) → Begun p back
begun [] p back (last h) = begun_word h (λ lt. absurd (omega arith))
begun [] p back (next {m = m} {ps = ps} b h is a) = begun_word h (λ lt. ap (λ u. word_byte (get_or (u ++ spell ps) 0 0)) is.0 ∙ mark_apart b is.1)
begun (q ∷ []) p back (next b h is a) = begun_mark b is
begun (q ∷ r ∷ front) p back (next b h is a) = begun front p back a

pub other_mark : (b : ℕ) → (b ≡ 46 → ⊥) → (b ≡ 64 → ⊥) → mark_of b ≡ plus
other_mark b no-dot no-at = cond-false _ _ _ (ne_eqb b 46 no-dot) ∙ cond-false _ _ _ (ne_eqb b 64 no-at)

-- the parts up to one, in bytes
length_front : (front : List Part) (p : Part) → length (spell (front ++ (p ∷ []))) ≡ length (spell front) + length (bytes_of p)
length_front front p = ap length (spell_append front (p ∷ [])) ∙ length-append (spell front) (bytes_of p ++ []) ∙ ap (λ u. length (spell front) + length u) (append-nil (bytes_of p))

-- the word bytes from a place on, counted
pub word_end_is : (text : List ℕ) (from count : ℕ) → from ≤ length text → count ≡ length (take_while word_byte (drop from text)) → WordEnd text from (from + count)
word_end_is text from count le is = record {
  forward = omega arith;
  within = omega (arith, counted, prefix_len-le-length word_byte rest, length-drop from text);
  bytes = λ k low high. ap word_byte (at k low) ∙ prefix_len_passes word_byte rest (k - from) 0 (omega (arith, counted));
  past = λ lt. ap word_byte (at (from + count) (omega arith) ∙ ap (λ n. get_or rest n 0) (omega (arith, counted))) ∙ prefix_len_stops word_byte rest 0 (omega (arith, counted, length-drop from text));
}
  where
    rest : List ℕ
    rest = drop from text

    counted : count ≡ prefix_len word_byte (drop from text)
    counted = is ∙ length-take-le (prefix_len word_byte (drop from text)) (drop from text) (prefix_len-le-length word_byte (drop from text))

    at : (k : ℕ) → from ≤ k → get_or text k 0 ≡ get_or (drop from text) (k - from) 0
    at k le = ap (λ n. get_or text n 0) (omega arith) ∙ sym (get_or-drop from text (k - from) 0)

module _ (text : List ℕ) (place : ℕ) where
  -- the bytes before the place, those of the part there, and those behind it
  module _ (s w t : List ℕ) (e : s ++ (w ++ t) ≡ text) (here : place ≡ length s) where
    byte_at : (k : ℕ) → get_or text (place + k) 0 ≡ get_or (w ++ t) k 0
    byte_at k = ap (λ u. get_or u (place + k) 0) (sym e) ∙ ap (λ n. get_or (s ++ (w ++ t)) (n + k) 0) here ∙ get_or-append-add s (w ++ t) k 0

    first_byte : get_or text place 0 ≡ get_or (w ++ t) 0 0
    first_byte = ap (λ n. get_or text n 0) (omega arith) ∙ byte_at 0

    whole : length text ≡ place + (length w + length t)
    whole = omega (arith, ap length e, length-append s (w ++ t), length-append w t)

    part_bytes : (end : ℕ) → end ≡ place + length w → between place end text ≡ w
    part_bytes end is =
        let n : length w ≡ end - place = omega arith in
        ap (λ u. take (end - place) (drop place u)) (sym e) ∙ ap (take (end - place)) (drop_at s (w ++ t) place (sym here)) ∙ take_at w t (end - place) n

    -- a word is all of the word bytes there
    word_end : (end : ℕ) → WordBytes w → (0 < length t → word_byte (get_or t 0 0) ≡ false) → WordEnd text place end → end ≡ place + length w
    word_end end bs out r =
        ⊎_elim
        (λ same. same)
        (⊎_elim
        (λ less.
        let k = end - place in
        let lt : k < length w = omega (arith, r.forward) in
        let in_word : word_byte (get_or text end 0) ≡ true = ap (λ n. word_byte (get_or text n 0)) (omega (arith, r.forward)) ∙ ap word_byte (byte_at k ∙ get_or_append_left w t 0 k lt) ∙ All-get_or (λ b. word_byte b ≡ true) w k 0 lt bs in
        absurd (clash (sym (r.past (omega (arith, whole))) ∙ in_word)))
        (λ more.
        let behind : get_or text (place + length w) 0 ≡ get_or t 0 0 = byte_at (length w) ∙ ap (λ n. get_or (w ++ t) n 0) (omega arith) ∙ get_or-append-add w t 0 0 in
        absurd (clash (sym (out (omega (arith, whole, r.within))) ∙ ap word_byte (sym behind) ∙ r.bytes (place + length w) (omega arith) more))))
        (cases_order end (place + length w))

  -- a part of the name begins at the place
  module _ (front : List Part) where
    abbrev Here : Part → List Part → Type 0
    Here p back = (spell front ++ (bytes_of p ++ spell back) ≡ text) × (place ≡ length (spell front))

    -- the step gives this part, and stands behind it
    abbrev Shows : Part → Part → ℕ → Type 0
    Shows p q place' = (q ≡ p) × (place' ≡ length (spell (front ++ (p ∷ []))))

    starts : (p : Part) (back : List Part) → Begun p back → Here p back → place < length text
    starts (word w) back (begun_word h out) at-it = omega (arith, whole (spell front) w (spell back) at-it.0 at-it.1, h.some)
    starts m back (begun_mark b is) at-it = omega (arith, whole (spell front) (bytes_of m) (spell back) at-it.0 at-it.1, ap length is.0)

    mark_byte_lem : (m : Part) (b : ℕ) (back : List Part) → Mark m b → Here m back → get_or text place 0 ≡ b
    mark_byte_lem m b back is at-it = first_byte (spell front) (bytes_of m) (spell back) at-it.0 at-it.1 ∙ ap (λ u. get_or (u ++ spell back) 0 0) is.0

    word_shown : (p : Part) (back : List Part) (end : ℕ) → Begun p back → Here p back → place < end → WordEnd text place end → Shows p (word (between place end text)) end
    word_shown (word w) back end (begun_word h out) at-it lt r =
        let n = word_end (spell front) w (spell back) at-it.0 at-it.1 end h.bytes out r in
        (ap word (part_bytes (spell front) w (spell back) at-it.0 at-it.1 end n), omega (arith, n, length_front front (word w)))
    word_shown m back end (begun_mark b is) at-it lt r =
        absurd (clash (sym (mark_apart b is.1) ∙ ap word_byte (sym (mark_byte_lem m b back is at-it)) ∙ r.bytes place (omega arith) lt))

    mark_shown : (p : Part) (back : List Part) (end : ℕ) → Begun p back → Here p back → end ≤ place → WordEnd text place end → Shows p (mark_of (get_or text place 0)) (place + 1)
    mark_shown (word w) back end (begun_word h out) at-it le r = absurd (omega (arith, word_end (spell front) w (spell back) at-it.0 at-it.1 end h.bytes out r, h.some))
    mark_shown m back end (begun_mark b is) at-it le r =
        (ap mark_of (mark_byte_lem m b back is at-it) ∙ mark_of_lem m b is, omega (arith, length_front front m, ap length is.0))

  abbrev Step : Option (ℕ × WalkedPart) → ℕ → Type 0
  Step given place' = Walks text place given text place'

  -- what each step gives
  pub walks_end : length text ≤ place → Step None place
  walks_end le = record {
    kept = refl;
    part = λ front p back form e here. absurd (omega (arith, starts front p back (begun front p back (alternates form)) (sym (spell_append front (p ∷ back)) ∙ e, here)));
    end = λ _. (refl, refl);
  }

  pub walks_word : (q : WalkedPart) (end : ℕ) → place < end → WordEnd text place end → part_of q ≡ word (between place end text) → Step (Some (place, q)) end
  walks_word q end lt r is = record {
    kept = refl;
    part = λ front p back form e here.
        let shown = word_shown front p back end (begun front p back (alternates form)) (sym (spell_append front (p ∷ back)) ∙ e, here) lt r in
        (refl, is ∙ shown.0, shown.1);
    end = λ le. absurd (omega (arith, r.within));
  }

  pub walks_mark : (q : WalkedPart) (end : ℕ) → place < length text → end ≤ place → WordEnd text place end → part_of q ≡ mark_of (get_or text place 0) → Step (Some (place, q)) (place + 1)
  walks_mark q end lt le r is = record {
    kept = refl;
    part = λ front p back form e here.
        let shown = mark_shown front p back end (begun front p back (alternates form)) (sym (spell_append front (p ∷ back)) ∙ e, here) le r in
        (refl, is ∙ shown.0, shown.1);
    end = λ past. absurd (omega arith);
  }

  -- behind a part the walk stands at a part again
  walk_on : (place' : ℕ) → place < length text → ((front : List Part) (p : Part) (back : List Part) → Steps (front ++ (p ∷ back)) → spell (front ++ (p ∷ back)) ≡ text → place ≡ length (spell front) → place' ≡ length (spell (front ++ (p ∷ [])))) → AtPart text place → AtPart text place'
  walk_on place' lt behind (front, back, (form, (e, here))) = on back form e
    where
      on : (bs : List Part) → Steps (front ++ bs) → spell (front ++ bs) ≡ text → AtPart text place'
      on [] f h = absurd (omega (arith, here, ap length (ap spell (sym (append-nil front)) ∙ h)))
      on (p ∷ bs) f h =
          let join : (front ++ (p ∷ [])) ++ bs ≡ front ++ (p ∷ bs) = append_assoc front (p ∷ []) bs in
          (front ++ (p ∷ []), bs, (subst Steps (sym join) f, (ap spell join ∙ h, behind front p bs f h here)))

  pub word_on : (end : ℕ) → place < end → WordEnd text place end → AtPart text place → AtPart text end
  word_on end lt r = walk_on end (omega (arith, r.within)) (λ front p back form e here. (word_shown front p back end (begun front p back (alternates form)) (sym (spell_append front (p ∷ back)) ∙ e, here) lt r).1)

  pub mark_on : (end : ℕ) → place < length text → end ≤ place → WordEnd text place end → AtPart text place → AtPart text (place + 1)
  mark_on end lt le r = walk_on (place + 1) lt (λ front p back form e here. (mark_shown front p back end (begun front p back (alternates form)) (sym (spell_append front (p ∷ back)) ∙ e, here) le r).1)
