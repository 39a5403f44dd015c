-- What a divided table has for a name.
use Rattle.std.proofs.Common.{◌≡◌, ℕ, Bool, true, false, cond, not, List, [], ◌∷◌, ◌++◌, Some, None, Option, sym, refl, ap, ◌∙◌, subst, ⊎_elim}
use Rattle.std.proofs.lemmas.Slice.Eq.{bytes_eq-Decides}
use Rattle.std.proofs.lemmas.Option.{none-some}
use Rattle.std.proofs.lemmas.Bool.{cond-true, cond-false, cases_Bool}
use Rattle.std.specs.Str.{bytes_eq}
use Rattle.books.specs.Tables.{Table, text_of, begins, keep, divided}

cond_same : (b : Bool) (x : Option (List ℕ)) → x ≡ cond b x x
cond_same true x = refl
cond_same false x = refl

-- the rows that are kept have what the table has for names that pass, and nothing for others
text_keep : (p : List ℕ → Bool) (t : Table) (name : List ℕ) → text_of (keep p t) name ≡ cond (p name) (text_of t name) None
text_keep p [] name = cond_same (p name) None
text_keep p (e ∷ es) name =
    let P : Bool → Type 0 = λ b. text_of (cond b (e ∷ keep p es) (keep p es)) name ≡ cond (p name) (text_of (e ∷ es) name) None in
    ⊎_elim
    (λ same.
    let is = (bytes_eq-Decides e.name name).0 same in
    let found : text_of (e ∷ es) name ≡ Some e.text = cond-true _ _ _ same in
    ⊎_elim
    (λ pass. subst P (sym (ap p is ∙ pass)) (cond-true _ _ _ same ∙ sym found ∙ sym (cond-true _ _ _ pass)))
    (λ fail. subst P (sym (ap p is ∙ fail)) (text_keep p es name ∙ cond-false _ _ _ fail ∙ sym (cond-false _ _ _ fail)))
    (cases_Bool (p name)))
    (λ other.
    let rest : cond (p name) (text_of es name) None ≡ cond (p name) (text_of (e ∷ es) name) None = ap (λ x. cond (p name) x None) (sym (cond-false _ _ _ other)) in
    ⊎_elim
    (λ pass. subst P (sym pass) (cond-false _ _ _ other ∙ text_keep p es name ∙ rest))
    (λ fail. subst P (sym fail) (text_keep p es name ∙ rest))
    (cases_Bool (p e.name)))
    (cases_Bool (bytes_eq e.name name))

-- the second table counts where the first lacks the name
text_after : (s t : Table) (name : List ℕ) → text_of s name ≡ None → text_of (s ++ t) name ≡ text_of t name
text_after [] t name e = refl
text_after (x ∷ s) t name e =
    ⊎_elim
    (λ same. absurd (none-some x.text (sym e ∙ cond-true _ _ _ same)))
    (λ other. cond-false _ _ _ other ∙ text_after s t name (sym (cond-false _ _ _ other) ∙ e))
    (cases_Bool (bytes_eq x.name name))

-- and the first alone where the second lacks it
text_before : (s t : Table) (name : List ℕ) → text_of t name ≡ None → text_of (s ++ t) name ≡ text_of s name
text_before [] t name e = e
text_before (x ∷ s) t name e = ap (cond (bytes_eq x.name name) (Some x.text)) (text_before s t name e)

pub text_divided : (byte : ℕ) (f s : Table) (name : List ℕ) → text_of (divided byte f s) name ≡ cond (begins byte name) (text_of f name) (text_of s name)
text_divided byte f s name =
    let first = keep (begins byte) f in
    let second = keep (λ n. not (begins byte n)) s in
    let in-first = text_keep (begins byte) f name in
    let in-second = text_keep (λ n. not (begins byte n)) s name in
    ⊎_elim
    (λ yes-first. text_before first second name (in-second ∙ cond-false _ _ _ (ap not yes-first)) ∙ in-first ∙ cond-true _ _ _ yes-first ∙ sym (cond-true _ _ _ yes-first))
    (λ no-first. text_after first second name (in-first ∙ cond-false _ _ _ no-first) ∙ in-second ∙ cond-true _ _ _ (ap not no-first) ∙ sym (cond-false _ _ _ no-first))
    (cases_Bool (begins byte name))

pub text_first : (byte : ℕ) (f s : Table) (name : List ℕ) (b : Bool) → b ≡ begins byte name → b ≡ true → text_of (divided byte f s) name ≡ text_of f name
text_first byte f s name b is e = text_divided byte f s name ∙ cond-true _ _ _ (sym is ∙ e)

pub text_second : (byte : ℕ) (f s : Table) (name : List ℕ) (b : Bool) → b ≡ begins byte name → b ≡ false → text_of (divided byte f s) name ≡ text_of s name
text_second byte f s name b is e = text_divided byte f s name ∙ cond-false _ _ _ (sym is ∙ e)
