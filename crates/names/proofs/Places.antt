-- The parts of a name: words and marks in turn. How many there are, and where each begins.
use Rattle.std.proofs.Common.{◌≡◌, ℕ, zero, suc, ◌+◌, ◌-◌, ◌*◌, ◌<◌, Bool, true, false, cond, eqb, List, [], ◌∷◌, ◌++◌, length, get_or, take, sym, refl, ap, ◌∙◌, ⊎_elim, append-nil, arith, length-append}
use borrow.Author.Tests.{clash}
use Rattle.std.proofs.Math.Seq.{take-append-add}
use Rattle.std.proofs.lemmas.List.{take_at, get_or_append_left, get_or-append-add}
use Rattle.std.proofs.lemmas.Bool.{cases_order}
use Rattle.names.specs.Words.{WordBytes, Word, count_of}
use Rattle.names.specs.Names.{Part, word, dot, at, plus, bytes_of, spell, Partial, single, dotted, Step, program, role, Steps, only, joined}
use Rattle.names.specs.Faults.{mark_byte}
use Rattle.names.specs.Joints.{JointAt}
use Rattle.names.proofs.Forms.{mark_apart}
use Rattle.names.proofs.Counts.{count_append}

abbrev pub NoWord : Part → Type 0
NoWord (word w) = ⊥
NoWord dot = Unit {0}
NoWord at = Unit {0}
NoWord plus = Unit {0}

-- the byte of a mark; no mark is a word
abbrev pub Mark : Part → ℕ → Type 0
Mark p b = (bytes_of p ≡ b ∷ []) × (mark_byte b ≡ true) × NoWord p

-- the mark that a byte is
abbrev pub mark_of : ℕ → Part
mark_of b = cond (eqb b 46) dot (cond (eqb b 64) at plus)

pub mark_of_lem : (m : Part) (b : ℕ) → Mark m b → mark_of b ≡ m
mark_of_lem (word w) b is = absurd is.2
mark_of_lem dot b is = ap (λ u. mark_of (get_or u 0 0)) (sym is.0)
mark_of_lem at b is = ap (λ u. mark_of (get_or u 0 0)) (sym is.0)
mark_of_lem plus b is = ap (λ u. mark_of (get_or u 0 0)) (sym is.0)

pub data Alternates : List Part → Type 0 where
  last : {w : List ℕ} → Word w → Alternates (word w ∷ [])
  next : {w : List ℕ} {m : Part} {ps : List Part} (b : ℕ) → Word w → Mark m b → Alternates ps → Alternates (word w ∷ m ∷ ps)

alternates_append : {ps qs : List Part} (m : Part) (b : ℕ) → Alternates ps → Mark m b → Alternates qs → Alternates (ps ++ (m ∷ qs))
alternates_append m b (last h) is a = next b h is a
alternates_append m b (next c h is' a') is a = next c h is' (alternates_append m b a' is a)

partial_alternates : {ps : List Part} → Partial ps → Alternates ps
partial_alternates (single h) = last h
partial_alternates (dotted h p) = next 46 h (refl, refl, tt) (partial_alternates p)

step_alternates : {ps : List Part} → Step ps → Alternates ps
step_alternates (program p) = partial_alternates p
step_alternates (role s p) = alternates_append at 64 (step_alternates s) (refl, refl, tt) (partial_alternates p)

pub alternates : {ps : List Part} → Steps ps → Alternates ps
alternates (only s) = step_alternates s
alternates (joined n s) = alternates_append plus 43 (alternates n) (refl, refl, tt) (step_alternates s)

-- no byte of a word is a mark
unmarked : (w : List ℕ) → WordBytes w → (i : ℕ) → i < length w → mark_byte (get_or w i 0) ≡ true → ⊥
unmarked [] bs i lt is = omega arith
unmarked (b ∷ w) bs zero lt is = clash (sym (mark_apart b is) ∙ bs.0)
unmarked (b ∷ w) bs (suc i) lt is = unmarked w bs.1 i (omega arith) is

no_marks : (w : List ℕ) → WordBytes w → count_of mark_byte w ≡ 0
no_marks [] bs = refl
no_marks (b ∷ w) bs = omega (arith, no_marks w bs.1, ap {B = ℕ} (λ v. cond v 1 0) (plain (mark_byte b) refl))
  where
    plain : (v : Bool) → mark_byte b ≡ v → mark_byte b ≡ false
    plain true e = absurd (clash (sym (mark_apart b e) ∙ bs.0))
    plain false e = e

-- a word, a mark and the rest
cut : (w : List ℕ) (b : ℕ) (t : List ℕ) → WordBytes w → mark_byte b ≡ true → count_of mark_byte (w ++ (b ∷ t)) ≡ 1 + count_of mark_byte t
cut w b t bs is = count_append mark_byte w (b ∷ t) ∙ omega (arith, no_marks w bs, ap {B = ℕ} (λ v. cond v 1 0) is)

spelled_cut : (w : List ℕ) (m : Part) (b : ℕ) (ps : List Part) → Mark m b → spell (word w ∷ m ∷ ps) ≡ w ++ (b ∷ spell ps)
spelled_cut w m b ps is = ap (λ u. w ++ (u ++ spell ps)) is.0

-- two parts for each mark, and the last word
pub count_parts : {ps : List Part} → Alternates ps → length ps ≡ 2 * count_of mark_byte (spell ps) + 1
count_parts (last {w = w} h) = omega (arith, no_marks w h.bytes, ap (count_of mark_byte) (append-nil w))
count_parts (next {w = w} {m = m} {ps = ps} b h is a) = omega (arith, count_parts a, ap (count_of mark_byte) (spelled_cut w m b ps is), cut w b (spell ps) h.bytes is.1)

-- the mark that has n others before it is the part that has 2 * n + 1 before it
pub place_of : {ps : List Part} → Alternates ps → (n p : ℕ) → JointAt mark_byte (spell ps) n p → p ≡ length (spell (take (2 * n + 1) ps))
place_of (last {w = w} h) n p j =
    let e = append-nil w in
    absurd (unmarked w h.bytes p (omega (arith, j.within, ap length e)) (ap (λ t. mark_byte (get_or t p 0)) (sym e) ∙ j.is_joint))
place_of (next {w = w} {m = m} {ps = ps} b h is a) n p j =
    let t = spell ps in
    let e : spell (word w ∷ m ∷ ps) ≡ w ++ (b ∷ t) = spelled_cut w m b ps is in
    ⊎_elim
    (λ same.
    let none : n ≡ 0 = sym j.before ∙ ap (λ u. count_of mark_byte (take p u)) e ∙ ap (count_of mark_byte) (take_at w (b ∷ t) p (sym same)) ∙ no_marks w h.bytes in
    let first : 1 ≡ 2 * n + 1 = omega (arith, none) in
    same ∙ sym (ap length (append-nil w)) ∙ ap (λ k. length (spell (take k (word w ∷ m ∷ ps)))) first)
    (⊎_elim
    (λ less. absurd (unmarked w h.bytes p less (ap mark_byte (sym (get_or_append_left w (b ∷ t) 0 p less) ∙ ap (λ u. get_or u p 0) (sym e)) ∙ j.is_joint)))
    (λ more.
    let q = p - length w - 1 in
    let split : p ≡ length w + suc q = omega arith in
    let here : get_or (spell (word w ∷ m ∷ ps)) p 0 ≡ get_or t q 0 = ap (λ u. get_or u p 0) e ∙ ap (λ k. get_or (w ++ (b ∷ t)) k 0) split ∙ get_or-append-add w (b ∷ t) (suc q) 0 in
    let front : take p (spell (word w ∷ m ∷ ps)) ≡ w ++ (b ∷ take q t) = ap (take p) e ∙ ap (λ k. take k (w ++ (b ∷ t))) split ∙ take-append-add w (b ∷ t) (suc q) in
    let fewer : n ≡ 1 + count_of mark_byte (take q t) = sym j.before ∙ ap (count_of mark_byte) front ∙ cut w b (take q t) h.bytes is.1 in
    let inner = place_of a (n - 1) q (record { within = omega (arith, j.within, ap length e, length-append w (b ∷ t)); is_joint = ap mark_byte (sym here) ∙ j.is_joint; before = omega arith }) in
    let two-more : 2 * n + 1 ≡ suc (suc (2 * (n - 1) + 1)) = omega (arith, fewer) in
    let shown : length (spell (take (2 * n + 1) (word w ∷ m ∷ ps))) ≡ length (w ++ (b ∷ spell (take (2 * (n - 1) + 1) ps))) = ap (λ k. length (spell (take k (word w ∷ m ∷ ps)))) two-more ∙ ap length (spelled_cut w m b (take (2 * (n - 1) + 1) ps) is) in
    omega (arith, shown, length-append w (b ∷ spell (take (2 * (n - 1) + 1) ps)))))
    (cases_order p (length w))
