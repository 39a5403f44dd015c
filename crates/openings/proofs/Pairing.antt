-- Names with texts, as a table, of which more are given.
use Rattle.std.proofs.Common.{◌≡◌, ℕ, zero, suc, ◌<◌, ◌≤◌, true, false, List, [], ◌∷◌, ◌++◌, length, get_or, set, is_some, Some, None, sym, refl, ap, ◌∙◌, ⊎_elim, arith}
use Rattle.std.proofs.lemmas.Slice.Eq.{bytes_eq-Decides}
use Rattle.std.proofs.lemmas.Bool.{cond_both, both_ways}
use Rattle.std.specs.Str.{bytes_eq}
use Rattle.books.specs.Tables.{Entry, Table, text_of}
use Rattle.openings.specs.Opening.{Name, Meaning, Numbered, Known, Distinct}
use Rattle.openings.specs.Opened.{names_of}
use Rattle.openings.specs.Pairs.{pairs}
use Rattle.openings.specs.Progress.{HasTexts}
use Rattle.openings.proofs.Knowing.{known_more, known_cases}
use Rattle.openings.proofs.TableTexts.{texts_across}

-- there are as many as names, if there are texts enough
pub pairs_count : (gs : List Name) (texts : List (List ℕ)) → length gs ≤ length texts → length (pairs gs texts) ≡ length gs
pairs_count [] texts le = refl
pairs_count (g ∷ gs) [] le = absurd (omega arith)
pairs_count (g ∷ gs) (text ∷ texts) le = ap suc (pairs_count gs texts (omega arith))

-- one more
pub pairs_more : (gs : List Name) (texts : List (List ℕ)) (name text : List ℕ) → length gs < length texts → pairs (gs ++ (name ∷ [])) (set texts (length gs) text) ≡ pairs gs texts ++ (record { name = name; text = text } ∷ [])
pairs_more gs [] name text lt = absurd (omega arith)
pairs_more [] (t ∷ texts) name text lt = refl
pairs_more (g ∷ gs) (t ∷ texts) name text lt = ap (λ es. record { name = g; text = t } ∷ es) (pairs_more gs texts name text (omega arith))

-- a meaning has the text at the place of each name
pub text_at : (M : Meaning) (gs : List Name) (texts : List (List ℕ)) (i : ℕ) → length gs ≤ length texts → i < length gs → HasTexts M (pairs gs texts) → M (get_or gs i []) ≡ Some (get_or texts i [])
text_at M [] texts i le lt h = absurd (omega arith)
text_at M (g ∷ gs) [] i le lt h = absurd (omega arith)
text_at M (g ∷ gs) (t ∷ texts) zero le lt h = h.0
text_at M (g ∷ gs) (t ∷ texts) (suc i) le lt h = text_at M gs texts i (omega arith) (omega arith) h.1

-- texts of two tables, one after the other
pub texts_front : (M : Meaning) (s t : Table) → HasTexts M (s ++ t) → HasTexts M s
texts_front M [] t h = tt
texts_front M (e ∷ s) t h = (h.0, texts_front M s t h.1)

pub texts_last : (M : Meaning) (s : Table) (e : Entry) → HasTexts M (s ++ (e ∷ [])) → M e.name ≡ Some e.text
texts_last M [] e h = h.0
texts_last M (x ∷ s) e h = texts_last M s e h.1

pub texts_push : (M : Meaning) (s : Table) (e : Entry) → HasTexts M s → M e.name ≡ Some e.text → HasTexts M (s ++ (e ∷ []))
texts_push M [] e h is = (is, tt)
texts_push M (x ∷ s) e h is = (h.0, texts_push M s e h.1 is)

-- the names of a table are had where its texts are
pub texts_have : (M : Meaning) (t : Table) (g : Name) → HasTexts M t → Known (names_of t) g → is_some (M g) ≡ true
texts_have M [] g h k = absurd (omega (arith, k.1.below))
texts_have M (e ∷ t) g h k = ⊎_elim (λ is. ap (λ n. is_some (M n)) (sym is) ∙ ap is_some h.0) (texts_have M t g h.1) (known_cases k)

-- a table with distinct names has its own texts
pub own_texts : (t : Table) → Distinct (names_of t) → HasTexts (text_of t) t
own_texts [] apart = tt
own_texts (e ∷ t) apart =
    let head : text_of (e ∷ t) e.name ≡ Some e.text = cond_both (bytes_eq e.name e.name) (Some e.text) (text_of t e.name) (λ o. o ≡ Some e.text) (λ is. refl) (λ not. absurd (both_false not)) in
    (head, texts_across (text_of t) (text_of (e ∷ t)) t (λ g k. other g k) (own_texts t (λ g j k a b. later g j k a b)))
  where
    both_false : bytes_eq e.name e.name ≡ false → ⊥
    both_false f = both_ways _ f ((bytes_eq-Decides e.name e.name).1 refl)

    later : (g : Name) (j k : ℕ) → Numbered (names_of t) g j → Numbered (names_of t) g k → j ≡ k
    later g j k a b = omega (arith, apart g (suc j) (suc k) (record { below = omega (arith, a.below); is = a.is }) (record { below = omega (arith, b.below); is = b.is }))

    other : (g : Name) → Known (names_of t) g → text_of (e ∷ t) g ≡ text_of t g
    other g k =
        cond_both (bytes_eq e.name g) (Some e.text) (text_of t g) (λ o. o ≡ text_of t g)
        (λ is.
        let same : e.name ≡ g = (bytes_eq-Decides e.name g).0 is in
        absurd (omega (arith, apart g 0 (suc k.0) (record { below = omega arith; is = same }) (record { below = omega (arith, k.1.below); is = k.1.is }))))
        (λ not. refl)

-- a table without a name has no text for it
pub text_none : (t : Table) (g : Name) → (Known (names_of t) g → ⊥) → text_of t g ≡ None
text_none [] g unknown = refl
text_none (e ∷ t) g unknown =
    cond_both (bytes_eq e.name g) (Some e.text) (text_of t g) (λ o. o ≡ None)
    (λ is. absurd (unknown (0, record { below = omega arith; is = (bytes_eq-Decides e.name g).0 is })))
    (λ not. text_none t g (λ k. unknown (known_more k)))
