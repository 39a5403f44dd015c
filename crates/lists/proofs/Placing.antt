-- The tokens of a text stand at one row of places, and no fault is among them.
use Rattle.std.proofs.Common.{◌≡◌, ℕ, zero, suc, ◌+◌, ◌-◌, ◌<◌, ◌≤◌, Bool, true, List, [], ◌∷◌, ◌++◌, length, get_or, take, drop, Some, sym, refl, ap, ◌∙◌, subst, ⊎_elim, arith, length-drop}
use borrow.Author.Tests.{clash, eqb-false}
use lib.ListN.{length-replicate}
use Rattle.std.proofs.lemmas.Bool.{cases_lt}
use Rattle.std.proofs.lemmas.List.{get_or-take, get_or-drop, take_at, drop_at, drop-drop}
use Rattle.std.proofs.ByRecursion.{All-get_or}
use Rattle.std.specs.List.{AllByRecursion}
use Rattle.faults.specs.declared.fault.Fault.{Fault}
use Rattle.names.specs.Words.{word_byte, WordBytes}
use Rattle.lists.specs.Trees.{Sign, atom, word, group}
use Rattle.lists.specs.Bytes.{group_byte, blanks, sign_of, part, Past, Run}
use Rattle.lists.specs.Tokens.{Shows, shows_word, shows_mark, shows_group, Spells}
use Rattle.lists.specs.Texts.{ListText, LawfulList}
use Rattle.lists.specs.Lexemes.{Gap, is_blank, is_closing, TokenAt, NoSign, TokenFault, bad_byte, long_word, no_name, long_name, no_brace, Handed, all, first}
use Rattle.lists.specs.Placed.{Placed, none, more, signs_of, OnePlacing}
use Rattle.lists.proofs.Machine.{brace_out, blank_ungrouped, close_ungrouped, sign_apart, group_bytes}
use Rattle.lists.proofs.Segments.{drop_part, part_length, part_one, past_at}
use Rattle.lists.proofs.Handing.{unblank, handed_spells, spells_handed, run_at, gap_at}

module _ (text : List ℕ) where
  -- what holds of each byte of a part holds of the byte at a place in it
  part_byte : (P : ℕ → Type 0) (i j k : ℕ) → i ≤ k → k < j → j ≤ length text → AllByRecursion P (part text i j) → P (get_or text k 0)
  part_byte P i j k le lt inside every =
      let at : i + (k - i) ≡ k = omega arith in
      let short : k - i < j - i = omega arith in
      let there : k - i < length (part text i j) = omega (arith, part_length text i j (omega arith) inside) in
      subst P (get_or-take (j - i) (drop i text) (k - i) 0 short ∙ get_or-drop i text (k - i) 0 ∙ ap (λ n. get_or text n 0) at) (All-get_or P (part text i j) (k - i) 0 there every)

  -- bytes of a kind do not go on past the end of their run
  run_over : (p : ℕ → Bool) (i j k : ℕ) → Run p text i j → j < k → k ≤ length text → AllByRecursion (λ b. p b ≡ true) (part text i k) → ⊥
  run_over p i j k r lt inside every = clash (sym (past_at p text j (omega arith) r.past) ∙ part_byte (λ b. p b ≡ true) i k j r.forward lt inside every)

-- a run ends at one place
pub run_unique : (p : ℕ → Bool) (text : List ℕ) (i j k : ℕ) → Run p text i j → Run p text i k → j ≡ k
run_unique p text i j k r q =
    ⊎_elim (λ lt. absurd (run_over text p i j k r lt q.within q.bytes))
    (λ le. ⊎_elim (λ lt. absurd (run_over text p i k j q lt r.within r.bytes)) (λ le'. omega arith) (cases_lt k j))
    (cases_lt j k)

-- from a place in braces on: all the bytes of a group name, blanks, and the closing brace
record Braced (text : List ℕ) (x y z : ℕ) : Type 0 where
  name : Run group_byte text x y
  some : x < y
  few : y - x ≤ 32
  after : Gap text y z
  inside : z < length text
  close : get_or text z 0 ≡ 125

-- a token by the runs that it is made of: all the word bytes from its place on, a mark, or a group name in braces
data Made (text : List ℕ) (place end : ℕ) : Sign → Type 0 where
  of_word : word_byte (get_or text place 0) ≡ true → Run word_byte text place end → end - place ≤ 32 → Made text place end (atom (word (part text place end)))
  of_mark : {s : Sign} → sign_of (get_or text place 0) ≡ Some s → end ≡ place + 1 → Made text place end s
  of_group : {x y z : ℕ} → get_or text place 0 ≡ 123 → Gap text (place + 1) x → Braced text x y z → end ≡ z + 1 → Made text place end (group (part text x y))

-- what follows a group name in braces is no part of it
name_past : (n : ℕ) (rest : List ℕ) → Past group_byte (blanks n ++ (125 ∷ rest))
name_past zero rest = close_ungrouped
name_past (suc n) rest = blank_ungrouped

module _ (text : List ℕ) where
  -- the byte at a place, and what follows some bytes
  byte_at : (k b : ℕ) (t : List ℕ) → drop k text ≡ b ∷ t → get_or text k 0 ≡ b
  byte_at k b t e = let at : k + 0 ≡ k = omega arith in sym (ap (λ n. get_or text n 0) at) ∙ sym (get_or-drop k text 0 0) ∙ ap (λ u. get_or u 0 0) e

  drop_on : (k n : ℕ) (u t : List ℕ) → length u ≡ n → drop k text ≡ u ++ t → drop (k + n) text ≡ t
  drop_on k n u t long e = sym (drop-drop n k text) ∙ ap (drop n) e ∙ drop_at u t n long

module _ (text : List ℕ) (place end : ℕ) (some : place < end) (inside : end ≤ length text) where
  made : {u rest : List ℕ} {s : Sign} → Shows u rest s → part text place end ≡ u → drop end text ≡ rest → Made text place end s
  made (shows_word {w = w} h p) e f =
      let bytes : WordBytes (part text place end) = subst WordBytes (sym e) h.bytes in
      subst (λ v. Made text place end (atom (word v))) e
      (of_word (part_byte text (λ b. word_byte b ≡ true) place end place (omega arith) some inside bytes)
      (record { forward = omega arith; within = inside; bytes = bytes; past = subst (Past word_byte) (sym f) p })
      (omega (arith, h.few, part_length text place end (omega arith) inside, ap length e)))
  made (shows_mark {b = b} is) e f =
      let width : end ≡ place + 1 = omega (arith, part_length text place end (omega arith) inside, ap length e) in
      let here : get_or text place 0 ≡ b = ap (λ u. get_or u 0 0) (sym (part_one text place (omega arith)) ∙ ap (part text place) (sym width) ∙ e) in
      of_mark (ap sign_of here ∙ is) width
  made (shows_group {g = g} {rest = rest} n m h) e f =
      let blank : (k : ℕ) → length (blanks k) ≡ k = λ k. length-replicate {A = ℕ} k 32 in
      let x = place + 1 + n in
      let y = x + length g in
      let z = y + m in
      let whole : drop place text ≡ 123 ∷ (blanks n ++ (g ++ (blanks m ++ (125 ∷ rest)))) = drop_part text place end (omega arith) ∙ (λ i. e i ++ f i) ∙ group_bytes g rest n m in
      let at_gap : drop (place + 1) text ≡ blanks n ++ (g ++ (blanks m ++ (125 ∷ rest))) = drop_on text place 1 (123 ∷ []) _ refl whole in
      let at_name : drop x text ≡ g ++ (blanks m ++ (125 ∷ rest)) = drop_on text (place + 1) n (blanks n) _ (blank n) at_gap in
      let past-name : drop y text ≡ blanks m ++ (125 ∷ rest) = drop_on text x (length g) g _ refl at_name in
      let at-brace : drop z text ≡ 125 ∷ rest = drop_on text y m (blanks m) _ (blank m) past-name in
      let size : length text - z ≡ 1 + (length text - end) = sym (length-drop z text) ∙ ap length at-brace ∙ omega (arith, ap length f, length-drop end text) in
      subst (λ v. Made text place end (group v)) (let k : y - x ≡ length g = omega arith in ap (λ j. take j (drop x text)) k ∙ ap (take (length g)) at_name ∙ take_at g _ (length g) refl)
      (of_group {z = z} (byte_at text place 123 _ whole) (gap_at text (place + 1) n _ (omega arith) at_gap (unblank group_byte blank_ungrouped g _ h.some h.bytes))
      (record {
        name = run_at text group_byte x g _ (omega (arith, size)) at_name h.bytes (name_past m rest);
        some = omega (arith, h.some);
        few = omega (arith, h.few);
        after = gap_at text y m _ (omega (arith, size)) past-name refl;
        inside = omega (arith, size);
        close = byte_at text z 125 _ at-brace;
      })
      (omega (arith, size)))

-- each token is made of runs
made_at : {text : List ℕ} {from place end : ℕ} {s : Sign} → TokenAt text from place end s → Made text place end s
made_at {text = text} {place = place} {end = end} t = made text place end t.some t.within t.shows refl refl

-- a byte begins a word, is a mark or is a brace, and only one of these
word_mark : (b : ℕ) {s : Sign} → word_byte b ≡ true → sign_of b ≡ Some s → ⊥
word_mark b {s = s} is mark = clash (sym (sign_apart b s mark).1.0 ∙ is)

word_brace : (b : ℕ) → word_byte b ≡ true → b ≡ 123 → ⊥
word_brace b is brace = clash (sym brace_out ∙ ap word_byte (sym brace) ∙ is)

mark_brace : (b : ℕ) {s : Sign} → sign_of b ≡ Some s → b ≡ 123 → ⊥
mark_brace b {s = s} mark brace = eqb-false b 123 (sign_apart b s mark).1.1 brace

module _ (text : List ℕ) (place : ℕ) where
  made_unique : {e e' : ℕ} {s s' : Sign} → Made text place e s → Made text place e' s' → (e ≡ e') × (s ≡ s')
  made_unique {e = e} {e' = e'} (of_word is r few) (of_word is' r' few') =
      let same = run_unique word_byte text place e e' r r' in (same, ap (λ k. atom (word (part text place k))) same)
  made_unique (of_word is r few) (of_mark mark end) = absurd (word_mark _ is mark)
  made_unique (of_word is r few) (of_group brace gap b end) = absurd (word_brace _ is brace)
  made_unique (of_mark mark end) (of_word is r few) = absurd (word_mark _ is mark)
  made_unique (of_mark {s = s} mark end) (of_mark {s = s'} mark' end') = (end ∙ sym end', (let both = sym mark ∙ mark' in cc))
  made_unique (of_mark mark end) (of_group brace gap b end') = absurd (mark_brace _ mark brace)
  made_unique (of_group brace gap b end) (of_word is r few) = absurd (word_brace _ is brace)
  made_unique (of_group brace gap b end) (of_mark mark end') = absurd (mark_brace _ mark brace)
  made_unique (of_group {x = x} {y = y} {z = z} brace gap b end) (of_group {x = x'} {y = y'} {z = z'} brace' gap' b' end') =
      let ex = run_unique is_blank text (place + 1) x x' gap gap' in
      let c : Braced text x y' z' = subst (λ k. Braced text k y' z') (sym ex) b' in
      let ey = run_unique group_byte text x y y' b.name c.name in
      let ez = run_unique is_blank text y z z' b.after (subst (λ k. Gap text k z') (sym ey) c.after) in
      (omega (arith, ez), λ i. group (part text (ex i) (ey i)))

-- one token comes next after a place
pub token_unique : (text : List ℕ) (from : ℕ) {p e p' e' : ℕ} {s s' : Sign} → TokenAt text from p e s → TokenAt text from p' e' s' → (p ≡ p') × ((e ≡ e') × (s ≡ s'))
token_unique text from {p = p} {p' = p'} {e' = e'} {s' = s'} t t' =
    let same = run_unique is_blank text from p p' t.gap t'.gap in
    (same, made_unique text p (made_at t) (made_at (subst (λ k. TokenAt text from k e' s') (sym same) t')))

-- where a token comes next, the blanks do not reach the text's end
pub token_inside : (text : List ℕ) (from : ℕ) {p e : ℕ} {s : Sign} → Gap text from (length text) → TokenAt text from p e s → ⊥
token_inside text from {p = p} g t = omega (arith, run_unique is_blank text from (length text) p g t.gap, t.some, t.within)

-- the tokens from a place on stand at one row of places
pub placed_unique : (text : List ℕ) (at : ℕ) {ps qs : List (ℕ × Sign)} → Placed text at ps → Placed text at qs → ps ≡ qs
placed_unique text at (none g) (none h) = refl
placed_unique text at (none g) (more t r) = absurd (token_inside text at g t)
placed_unique text at (more t r) (none g) = absurd (token_inside text at g t)
placed_unique text at (more {end = e} {ps = ps} t r) (more {end = e'} {ps = qs} t' r') =
    let u = token_unique text at t t' in
    let rest : ps ≡ qs = placed_unique text e r (subst (λ k. Placed text k qs) (sym u.1.0) r') in
    λ i. (u.0 i, u.1.1 i) ∷ rest i

-- no token is made at the place of a fault: by a byte that begins no sign, by too many word bytes, or in braces
module _ (text : List ℕ) (p : ℕ) where
  unbegun : {end : ℕ} {s : Sign} → NoSign (get_or text p 0) → Made text p end s → ⊥
  unbegun bad (of_word is r few) = clash (sym bad.no_word ∙ is)
  unbegun bad (of_mark {s = s} mark end) = let both = sym bad.no_mark ∙ mark in let z : ◌≡◌ {A = ℕ} 0 1 = cc in omega arith
  unbegun bad (of_group brace gap b end) = eqb-false _ 123 bad.no_brace brace

  overlong : {end : ℕ} {s : Sign} → p + 32 < length text → WordBytes (part text p (p + 33)) → Made text p end s → ⊥
  overlong {end = end} lt bytes (of_word is r few) = run_over text word_byte p end (p + 33) r (omega arith) (omega arith) bytes
  overlong lt bytes (of_mark mark end) = word_mark _ (part_byte text (λ b. word_byte b ≡ true) p (p + 33) p (omega arith) (omega arith) (omega arith) bytes) mark
  overlong lt bytes (of_group brace gap b end) = word_brace _ (part_byte text (λ b. word_byte b ≡ true) p (p + 33) p (omega arith) (omega arith) (omega arith) bytes) brace

  unbraced : {end : ℕ} {s : Sign} (x : ℕ) → get_or text p 0 ≡ 123 → Gap text (p + 1) x → ((y z : ℕ) → Braced text x y z → ⊥) → Made text p end s → ⊥
  unbraced x open-brace gap never (of_word is r few) = word_brace _ is open-brace
  unbraced x open-brace gap never (of_mark mark end) = mark_brace _ mark open-brace
  unbraced x open-brace gap never (of_group {x = x'} {y = y} {z = z} brace gap' b end) = never y z (subst (λ k. Braced text k y z) (run_unique is_blank text (p + 1) x' x gap' gap) b)

-- the place after the blanks where a fault is found
record Faulty (text : List ℕ) (from : ℕ) : Type 0 where
  place : ℕ
  gap : Gap text from place
  inside : place < length text
  none_made : (end : ℕ) (s : Sign) → Made text place end s → ⊥

faulty : {text : List ℕ} {from : ℕ} {f : Fault} → TokenFault text from f → Faulty text from
faulty {text = text} (bad_byte {p = p} g lt bad) = record { place = p; gap = g; inside = lt; none_made = λ end s. unbegun text p bad }
faulty {text = text} (long_word {p = p} g lt bytes) = record { place = p; gap = g; inside = omega arith; none_made = λ end s. overlong text p lt bytes }
faulty {text = text} (no_name {p = p} {x = x} g lt brace gap past) = record {
  place = p;
  gap = g;
  inside = lt;
  none_made = λ end s. unbraced text p x brace gap (λ y z b. clash (sym (past_at group_byte text x (omega (arith, b.some, b.name.within)) past) ∙ part_byte text (λ c. group_byte c ≡ true) x y x (omega arith) b.some b.name.within b.name.bytes));
}
faulty {text = text} (long_name {p = p} {x = x} g lt brace gap in' bytes) = record {
  place = p;
  gap = g;
  inside = lt;
  none_made = λ end s. unbraced text p x brace gap (λ y z b. run_over text group_byte x y (x + 33) b.name (omega (arith, b.few)) (omega arith) bytes);
}
faulty {text = text} (no_brace {p = p} {x = x} {e = e} {y = y} g lt brace gap le name past after open-end) = record {
  place = p;
  gap = g;
  inside = lt;
  none_made = λ end s. unbraced text p x brace gap (λ y' z b.
      let run : Run group_byte text x e = record { forward = le; within = omega (arith, after.forward, after.within); bytes = name.bytes; past = past } in
      let same = run_unique group_byte text x y' e b.name run in
      let stop = run_unique is_blank text e z y (subst (λ k. Gap text k z) same b.after) after in
      eqb-false _ 125 (past_at is_closing text y (omega (arith, stop, b.inside)) open-end) (ap (λ k. get_or text k 0) (sym stop) ∙ b.close));
}

-- where tokens go on to the text's end, no fault comes next
pub fault_apart : (text : List ℕ) (from : ℕ) {ps : List (ℕ × Sign)} {f : Fault} → Placed text from ps → TokenFault text from f → ⊥
fault_apart text from (none g) f = let bad = faulty f in omega (arith, run_unique is_blank text from (length text) bad.place g bad.gap, bad.inside)
fault_apart text from (more {place = p} {end = e} {s = s} t r) f =
    let bad = faulty f in
    bad.none_made e s (subst (λ k. Made text k e s) (run_unique is_blank text from p bad.place t.gap bad.gap) (made_at t))

-- the places forgotten, and found again
placed_handed : {text : List ℕ} {at : ℕ} {ps : List (ℕ × Sign)} → Placed text at ps → Handed text at (signs_of ps)
placed_handed (none g) = all g
placed_handed (more t r) = first t (placed_handed r)

handed_placed : {text : List ℕ} {at : ℕ} {ss : List Sign} → Handed text at ss → (ps : List (ℕ × Sign)) × (Placed text at ps × (signs_of ps ≡ ss))
handed_placed (all g) = ([], (none g, refl))
handed_placed (first {place = p} {s = s} t h) = let r = handed_placed h in ((p, s) ∷ r.0, (more t r.1.0, ap (λ ss. s ∷ ss) r.1.1))

-- the signs of the tokens spell the text, and signs that spell it have places
pub placed_spells : {text : List ℕ} {ps : List (ℕ × Sign)} → Placed text 0 ps → Spells text (signs_of ps)
placed_spells {text = text} r = handed_spells text (placed_handed r)

pub spells_placed : {text : List ℕ} {ss : List Sign} → Spells text ss → (ps : List (ℕ × Sign)) × (Placed text 0 ps × (signs_of ps ≡ ss))
spells_placed {text = text} s = handed_placed (spells_handed text s 0 (omega arith) refl)

-- a list can be walked
pub list_placed : {text : List ℕ} → ListText text → (ps : List (ℕ × Sign)) × Placed text 0 ps
list_placed l = let r = spells_placed l.reads in (r.0, r.1.0)

pub lawful_placed : {text : List ℕ} → LawfulList text → (ps : List (ℕ × Sign)) × Placed text 0 ps
lawful_placed l = list_placed l.form

pub one_placing : (text : List ℕ) → OnePlacing text
one_placing text = record { one = λ ps qs. placed_unique text 0; spells = λ ps. placed_spells; placed = λ ss. spells_placed }
