-- A text is cut into signs in one way, and so it reads as one tree: the cutting is a function of the text.
use Rattle.std.proofs.Common.{◌≡◌, ℕ, zero, suc, true, cond, eqb, List, [], ◌∷◌, ◌++◌, Some, None, Option, sym, refl, ap, ◌∙◌, append_assoc, append-nil, arith}
use Rattle.std.proofs.lemmas.Bool.{cond-true, cond-false}
use Rattle.std.specs.List.{AllByRecursion}
use Rattle.names.specs.Words.{word_byte, WordBytes}
use Rattle.lists.specs.Trees.{Sign, atom, word, group, Tree, empty, list, Alts, alts_signs}
use Rattle.lists.specs.Bytes.{group_byte, blanks, sign_of, Past}
use Rattle.lists.specs.Tokens.{Shows, shows_word, shows_mark, shows_group, Spells, ends, next}
use Rattle.lists.specs.Texts.{Reads}
use Rattle.lists.proofs.Build.{fresh, full, Place, inside, build}
use Rattle.lists.proofs.Machine.{apart, blank_out, blank_ungrouped, close_ungrouped, sign_cases, group_bytes}
use Rattle.lists.proofs.UniqueTree.{build_alts, unique_alts}

-- what the cutting stands in, with the bytes of it so far: nothing, a word, or braces
pub data Within : Type 0 where
  outside : Within
  a_word : List ℕ → Within
  braces : List ℕ → Within

-- a byte outside: the sign that it is, if any, before the signs of the rest
abbrev pub alone : Option Sign → List Sign → List Sign
alone None ss = ss
alone (Some s) ss = s ∷ ss

abbrev pub from_outside : ℕ → (Within → List Sign) → List Sign
from_outside b rest = cond (eqb b 32) (rest outside) (cond (word_byte b) (rest (a_word (b ∷ []))) (cond (eqb b 123) (rest (braces [])) (alone (sign_of b) (rest outside))))

-- the signs of a text
abbrev pub cut : Within → List ℕ → List Sign
cut outside [] = []
cut (a_word w) [] = atom (word w) ∷ []
cut (braces g) [] = []
cut outside (b ∷ t) = from_outside b (λ m. cut m t)
cut (a_word w) (b ∷ t) = cond (word_byte b) (cut (a_word (w ++ (b ∷ []))) t) (atom (word w) ∷ from_outside b (λ m. cut m t))
cut (braces g) (b ∷ t) = cond (eqb b 32) (cut (braces g) t) (cond (eqb b 125) (group g ∷ cut outside t) (cut (braces (g ++ (b ∷ []))) t))

-- blanks are passed over, outside and in braces
cut_blanks : (n : ℕ) (t : List ℕ) → cut outside (blanks n ++ t) ≡ cut outside t
cut_blanks zero t = refl
cut_blanks (suc n) t = cut_blanks n t

cut_braced_blanks : (n : ℕ) (g t : List ℕ) → cut (braces g) (blanks n ++ t) ≡ cut (braces g) t
cut_braced_blanks zero g t = refl
cut_braced_blanks (suc n) g t = cut_braced_blanks n g t

-- a word is cut where its bytes end
cut_word : (v w rest : List ℕ) → WordBytes w → Past word_byte rest → cut (a_word v) (w ++ rest) ≡ atom (word (v ++ w)) ∷ cut outside rest
cut_word v [] [] bs p = ap (λ u. atom (word u) ∷ []) (sym (append-nil v))
cut_word v [] (b ∷ t) bs p = cond-false _ _ _ p ∙ ap (λ u. atom (word u) ∷ cut outside (b ∷ t)) (sym (append-nil v))
cut_word v (b ∷ w) rest bs p = cond-true _ _ _ bs.0 ∙ cut_word (v ++ (b ∷ [])) w rest bs.1 p ∙ ap (λ u. atom (word u) ∷ cut outside rest) (append_assoc v (b ∷ []) w)

-- the bytes of a group name are neither blank nor a closing brace
cut_name : (v g t : List ℕ) → AllByRecursion (λ b. group_byte b ≡ true) g → cut (braces v) (g ++ t) ≡ cut (braces (v ++ g)) t
cut_name v [] t bs = ap (λ u. cut (braces u) t) (sym (append-nil v))
cut_name v (b ∷ g) t bs =
    cond-false _ _ _ (apart group_byte b 32 bs.0 blank_ungrouped)
    ∙ cond-false _ _ _ (apart group_byte b 125 bs.0 close_ungrouped)
    ∙ cut_name (v ++ (b ∷ [])) g t bs.1
    ∙ ap (λ u. cut (braces u) t) (append_assoc v (b ∷ []) g)

-- bytes that show a sign are cut as that sign
cut_mark : (rest : List ℕ) (b : ℕ) (s : Sign) → sign_of b ≡ Some s → cut outside (b ∷ rest) ≡ s ∷ cut outside rest
unfolding word_byte sign_of
cut_mark rest = sign_cases (λ b s. cut outside (b ∷ rest) ≡ s ∷ cut outside rest) refl refl refl refl refl refl refl refl

cut_group : (t : List ℕ) → cut outside (123 ∷ t) ≡ cut (braces []) t
unfolding word_byte
cut_group t = refl

cut_shown : {u rest : List ℕ} {s : Sign} → Shows u rest s → cut outside (u ++ rest) ≡ s ∷ cut outside rest
cut_shown (shows_word {w = []} h p) = absurd (omega (arith, h.some))
cut_shown (shows_word {w = b ∷ w} {rest = rest} h p) =
    cond-false _ _ _ (apart word_byte b 32 h.bytes.0 blank_out) ∙ cond-true _ _ _ h.bytes.0 ∙ cut_word (b ∷ []) w rest h.bytes.1 p
cut_shown (shows_mark {b = b} {rest = rest} {s = s} is) = cut_mark rest b s is
cut_shown (shows_group {g = g} {rest = rest} x y h) =
    ap (cut outside) (group_bytes g rest x y)
    ∙ cut_group (blanks x ++ (g ++ (blanks y ++ (125 ∷ rest))))
    ∙ cut_braced_blanks x [] (g ++ (blanks y ++ (125 ∷ rest)))
    ∙ cut_name [] g (blanks y ++ (125 ∷ rest)) h.bytes
    ∙ cut_braced_blanks y g (125 ∷ rest)

-- the signs that a text spells are those that it is cut into
pub cut_spelled : {t : List ℕ} {ss : List Sign} → Spells t ss → cut outside t ≡ ss
cut_spelled (ends n) = ap (cut outside) (sym (append-nil (blanks n))) ∙ cut_blanks n []
cut_spelled (next {bytes = bytes} {rest = rest} {s = s} n sh sp) = cut_blanks n (bytes ++ rest) ∙ cut_shown sh ∙ ap (λ ss. s ∷ ss) (cut_spelled sp)

pub unique_signs : (t : List ℕ) (ss ss' : List Sign) → Spells t ss → Spells t ss' → ss ≡ ss'
unique_signs t ss ss' a b = sym (cut_spelled a) ∙ cut_spelled b

-- a list has a sign
some_sign : (l : Alts) → [] ≡ alts_signs l → ⊥
some_sign l e = let built : ◌≡◌ {A = Place} (inside [] fresh) (inside [] (full l)) = ap (build (inside [] fresh)) e ∙ build_alts [] l in let z : ◌≡◌ {A = ℕ} 0 1 = cc in omega arith

pub unique_tree : (t : List ℕ) (a b : Tree) → Reads t a → Reads t b → a ≡ b
unique_tree t empty empty r s = refl
unique_tree t empty (list m) r s = absurd (some_sign m (unique_signs t _ _ r s))
unique_tree t (list l) empty r s = absurd (some_sign l (unique_signs t _ _ s r))
unique_tree t (list l) (list m) r s = ap list (unique_alts l m (unique_signs t _ _ r s))
