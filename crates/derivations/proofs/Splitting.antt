-- The parts of a name are a function of its text: it is split at its marks.
use Rattle.std.proofs.Common.{◌≡◌, ℕ, Bool, true, false, cond, ◌&&◌, leb, List, [], ◌∷◌, ◌++◌, length, Some, None, Option, sym, refl, ap, ◌∙◌, append_assoc, append-nil, arith, leb-true}
use borrow.Author.Tests.{clash}
use Rattle.std.proofs.lemmas.Bool.{cond-true, cond-false, and_parts}
use Rattle.names.specs.Words.{word_byte, WordBytes, Joined, count_of}
use Rattle.names.specs.Names.{Part, word, spell, IsName, LawfulName}
use Rattle.names.specs.Faults.{mark_byte}
use Rattle.names.proofs.Chains.{reads, chain_of}
use Rattle.names.proofs.Checks.{name_lawful}
use Rattle.names.proofs.Forms.{mark_apart}
use Rattle.names.proofs.Places.{mark_of, mark_of_lem, Alternates, last, next, alternates}

-- the parts of a text, where w is what was read of a word
abbrev split : List ℕ → List ℕ → List Part
split w [] = word w ∷ []
split w (b ∷ t) = cond (word_byte b) (split (w ++ (b ∷ [])) t) (word w ∷ mark_of b ∷ split [] t)

abbrev pub parts_of : List ℕ → List Part
parts_of text = split [] text

split_word : (v w t : List ℕ) → WordBytes w → split v (w ++ t) ≡ split (v ++ w) t
split_word v [] t bs = ap (λ u. split u t) (sym (append-nil v))
split_word v (b ∷ w) t bs = cond-true _ _ _ bs.0 ∙ split_word (v ++ (b ∷ [])) w t bs.1 ∙ ap (λ u. split u t) (append_assoc v (b ∷ []) w)

split_spelled : {ps : List Part} → Alternates ps → split [] (spell ps) ≡ ps
split_spelled (last {w = w} h) = split_word [] w [] h.bytes
split_spelled (next {w = w} {m = m} {ps = ps} b h is a) =
    ap (λ u. split [] (w ++ (u ++ spell ps))) is.0
    ∙ split_word [] w (b ∷ spell ps) h.bytes
    ∙ cond-false _ _ _ (mark_apart b is.1)
    ∙ (λ i. word w ∷ mark_of_lem m b is i ∷ split_spelled a i)

-- the parts of a name are those that its text is split into
pub parts_split : (text : List ℕ) (ps : List Part) → IsName text ps → ps ≡ parts_of text
parts_split text ps n = sym (split_spelled (alternates n.form)) ∙ ap parts_of n.spelling

-- a test that a name passes
abbrev in_word : Option ℕ → Bool
in_word None = false
in_word (Some k) = leb 1 k

abbrev pub reads_as_name : List ℕ → Bool
reads_as_name text = leb (length text) 255 && leb (count_of mark_byte text) 31 && in_word (reads mark_byte text)

pub lawful_name : (text : List ℕ) → reads_as_name text ≡ true → LawfulName text
lawful_name text e =
    let h = and_parts _ _ e in
    let l = and_parts _ _ h.0 in
    name_lawful text (leb-true (length text) 255 l.0) (read (reads mark_byte text) refl h.1) (leb-true (count_of mark_byte text) 31 l.1)
  where
    read : (o : Option ℕ) → reads mark_byte text ≡ o → in_word o ≡ true → Joined mark_byte text
    read None is t = absurd (clash t)
    read (Some k) is t = chain_of mark_byte text k (omega (arith, leb-true 1 k t)) is
