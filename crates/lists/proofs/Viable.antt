-- The machine accepts every list that has an item, and goes on only where one goes on.
use Rattle.std.proofs.Common.{◌≡◌, ℕ, zero, suc, ◌-◌, Bool, true, false, cond, ltb, List, [], ◌∷◌, ◌++◌, replicate, Some, None, Option, sym, refl, ap, ◌∙◌, subst, arith, lt-ltb}
use Rattle.std.proofs.lemmas.Bool.{cond-true, cond-false}
use Rattle.names.specs.Language.{Begins}
use Rattle.names.specs.Words.{word_byte}
use Rattle.lists.specs.Trees.{close_bracket}
use Rattle.lists.specs.Bytes.{group_byte, blanks, sign_of, Past}
use Rattle.lists.specs.Tokens.{Spells}
use Rattle.lists.specs.Texts.{ItemText}
use Rattle.lists.specs.Machine.{within, State, out, word, brace, name, braced, lift, out_step, reads, start}
use Rattle.lists.proofs.Signs.{run_alts}
use Rattle.lists.proofs.Parse.{parse}
use Rattle.lists.proofs.Machine.{Rests, Lands, reads_append, reads_blanks, out_word, out_sign, word_past, spells_reads, blank_out, close_ungrouped}
use Rattle.lists.proofs.Sound.{reads_spelled}

-- every list is read to its end
pub item_lands : (t : List ℕ) → ItemText t → Lands (reads start t) (within 0 false)
item_lands t h = spells_reads h.spells (within 0 true) (within 0 false) (run_alts h.alts 0 true (omega (arith, h.shallow)))

pub accepts : (t : List ℕ) → ItemText t → (s : State) × (reads start t ≡ Some s)
accepts t h = found (reads start t) refl (item_lands t h)
  where
    found : (o : Option State) → reads start t ≡ o → Lands o (within 0 false) → (s : State) × (reads start t ≡ Some s)
    found None e l = absurd l
    found (Some s) e l = (s, e)

-- what is read to an item's end with no bracket open is a list
pub reads_item : (t : List ℕ) → Lands (reads start t) (within 0 false) → ItemText t
reads_item t l =
    let r = reads_spelled t (within 0 true) (within 0 false) l in
    let p = parse r.signs r.runs in
    record { alts = p.0; spells = subst (Spells t) (sym p.1.0) r.spells; shallow = p.1.1 }

-- closing brackets close what is open
pub close_out : word_byte 41 ≡ false
unfolding word_byte
close_out = refl

pub is_close : sign_of 41 ≡ Some close_bracket
unfolding sign_of
is_close = refl

step_close : (d : ℕ) → out_step (within (suc d) false) 41 ≡ Some (out (within d false))
step_close d =
    let less : suc d - 1 ≡ d = omega arith in
    let e : cond (ltb 0 (suc d)) (Some (within (suc d - 1) false)) None ≡ Some (within d false) = cond-true _ _ _ (lt-ltb 0 (suc d) (omega arith)) ∙ ap (λ n. Some (within n false)) less in
    out_sign (within (suc d) false) 41 close_bracket is_close ∙ ap lift e

out_closes : (d : ℕ) → Lands (reads (Some (out (within d false))) (replicate d 41)) (within 0 false)
out_closes zero = refl
out_closes (suc d) = subst (λ o. Lands (reads o (replicate d 41)) (within 0 false)) (sym (step_close d)) (out_closes d)

word_closes : (d k : ℕ) → Lands (reads (Some (word (within d false) k)) (replicate d 41)) (within 0 false)
word_closes d k = word_past (within d false) (within 0 false) k (replicate d 41) (past d) (out_closes d)
  where
    past : (n : ℕ) → Past word_byte (replicate n 41)
    past zero = tt
    past (suc n) = close_out

-- closing brackets alone make a list of what ends in an item
pub closes_item : (t : List ℕ) (s : State) (d : ℕ) → reads start t ≡ Some s → Rests s (within d false) → ItemText (t ++ replicate d 41)
closes_item t s d e r = reads_item (t ++ replicate d 41) (subst (λ o. Lands o (within 0 false)) (sym (reads_append start t (replicate d 41) ∙ ap (λ o. reads o (replicate d 41)) e)) (rest s r))
  where
    rest : (x : State) → Rests x (within d false) → Lands (reads (Some x) (replicate d 41)) (within 0 false)
    rest (out a) h = subst (λ c. Lands (reads (Some (out c)) (replicate d 41)) (within 0 false)) (sym h) (out_closes d)
    rest (word a k) h = subst (λ c. Lands (reads (Some (word c k)) (replicate d 41)) (within 0 false)) (sym h) (word_closes d k)
    rest (brace a) h = absurd h
    rest (name a k) h = absurd h
    rest (braced a) h = absurd h

letter : word_byte 97 ≡ true
unfolding word_byte
letter = refl

pub group_letter : group_byte 97 ≡ true
unfolding group_byte word_byte
group_letter = refl

-- what makes a list of what has been read: an item where one is due, and closing brackets
item_closes : (d : ℕ) (due : Bool) → Lands (reads (Some (out (within d due))) (97 ∷ replicate d 41)) (within 0 false)
item_closes d due = subst (λ o. Lands (reads o (replicate d 41)) (within 0 false)) (sym (out_word (within d due) 97 letter)) (word_closes d 1)

abbrev completion : State → List ℕ
completion (out (within d due)) = 97 ∷ replicate d 41
completion (word (within d due) k) = 32 ∷ 97 ∷ replicate d 41
completion (brace (within d due)) = 97 ∷ 125 ∷ 97 ∷ replicate d 41
completion (name (within d due) k) = 125 ∷ 97 ∷ replicate d 41
completion (braced (within d due)) = 125 ∷ 97 ∷ replicate d 41

name_closes : (d k : ℕ) (due : Bool) → Lands (reads (Some (name (within d due) k)) (125 ∷ 97 ∷ replicate d 41)) (within 0 false)
name_closes d k due = subst (λ o. Lands (reads o (97 ∷ replicate d 41)) (within 0 false)) (sym (cond-false _ _ _ close_ungrouped)) (item_closes d due)

completes : (s : State) → Lands (reads (Some s) (completion s)) (within 0 false)
completes (out (within d due)) = item_closes d due
completes (word (within d due) k) = subst (λ o. Lands (reads o (97 ∷ replicate d 41)) (within 0 false)) (sym (cond-false _ _ _ blank_out)) (item_closes d due)
completes (brace (within d due)) = subst (λ o. Lands (reads o (125 ∷ 97 ∷ replicate d 41)) (within 0 false)) (sym (cond-true _ _ _ group_letter)) (name_closes d 1 due)
completes (name (within d due) k) = name_closes d k due
completes (braced (within d due)) = item_closes d due

pub viable : (t : List ℕ) (s : State) → reads start t ≡ Some s → Begins ItemText t
viable t s e =
    (completion s, reads_item (t ++ completion s) (subst (λ o. Lands o (within 0 false)) (sym (reads_append start t (completion s) ∙ ap (λ o. reads o (completion s)) e)) (completes s)))

-- a letter after blanks is a list
pub letter_item : (n : ℕ) → ItemText (blanks n ++ (97 ∷ []))
letter_item n =
    reads_item (blanks n ++ (97 ∷ []))
    (subst (λ o. Lands o (within 0 false)) (sym (reads_append start (blanks n) (97 ∷ []) ∙ ap (λ o. reads o (97 ∷ [])) (reads_blanks (out (within 0 true)) refl n))) (item_closes 0 true))
