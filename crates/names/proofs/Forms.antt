-- Names and partial names are words joined by marks.
use Rattle.std.proofs.Common.{◌≡◌, ℕ, Bool, true, false, eqb, ◌⊎◌, List, [], ◌∷◌, ◌++◌, sym, refl, ap, ◌∙◌, subst, inl, inr, ⊎_elim, append_assoc, append-nil, eqb-true}
use Rattle.std.proofs.lemmas.Bool.{or_cases}
use Rattle.names.specs.Words.{word_byte, Word, Joined, lone, linked}
use Rattle.names.specs.Names.{Part, word, dot, at, plus, bytes_of, spell, Partial, single, dotted, Step, program, role, Steps, only, joined, Spelled}
use Rattle.names.specs.Faults.{mark_byte}
use Rattle.names.proofs.Chains.{chain_append}

abbrev pub dot_byte : ℕ → Bool
dot_byte b = eqb b 46

abbrev pub slash_byte : ℕ → Bool
slash_byte b = eqb b 47

-- no byte that joins words stands in one
pub dot_apart : (b : ℕ) → dot_byte b ≡ true → word_byte b ≡ false
unfolding word_byte
dot_apart b e = ap word_byte (eqb-true b 46 e)

pub slash_apart : (b : ℕ) → slash_byte b ≡ true → word_byte b ≡ false
unfolding word_byte
slash_apart b e = ap word_byte (eqb-true b 47 e)

-- a mark is one of three bytes
pub mark_cases : (b : ℕ) → mark_byte b ≡ true → ((b ≡ 46) ⊎ (b ≡ 64)) ⊎ (b ≡ 43)
mark_cases b e =
    ⊎_elim
    (λ l. inl (⊎_elim (λ d. inl (eqb-true b 46 d)) (λ d. inr (eqb-true b 64 d)) (or_cases _ _ l)))
    (λ r. inr (eqb-true b 43 r))
    (or_cases _ _ e)

pub mark_apart : (b : ℕ) → mark_byte b ≡ true → word_byte b ≡ false
unfolding word_byte
mark_apart b e = ⊎_elim (⊎_elim (λ d. ap word_byte d) (λ d. ap word_byte d)) (λ d. ap word_byte d) (mark_cases b e)

-- parts in order are spelled one after another
pub spell_append : (ps qs : List Part) → spell (ps ++ qs) ≡ spell ps ++ spell qs
spell_append [] qs = refl
spell_append (p ∷ ps) qs = ap (λ t. bytes_of p ++ t) (spell_append ps qs) ∙ sym (append_assoc (bytes_of p) (spell ps) (spell qs))

-- what the grammars spell is joined words
pub partial_joined : (joins : ℕ → Bool) → joins 46 ≡ true → {ps : List Part} → Partial ps → Joined joins (spell ps)
partial_joined joins is (single {w = w} h) = subst (Joined joins) (sym (append-nil w)) (lone h)
partial_joined joins is (dotted h p) = linked h is (partial_joined joins is p)

step_joined : {ps : List Part} → Step ps → Joined mark_byte (spell ps)
step_joined (program p) = partial_joined mark_byte refl p
step_joined (role {ss = ss} {ps = ps} s p) = subst (Joined mark_byte) (sym (spell_append ss (at ∷ ps))) (chain_append mark_byte (step_joined s) refl (partial_joined mark_byte refl p))

pub steps_joined : {ps : List Part} → Steps ps → Joined mark_byte (spell ps)
steps_joined (only s) = step_joined s
steps_joined (joined {ns = ns} {ss = ss} n s) = subst (Joined mark_byte) (sym (spell_append ns (plus ∷ ss))) (chain_append mark_byte (steps_joined n) refl (step_joined s))

-- a word and a mark before a name make a name
dot_step : {w : List ℕ} {ps : List Part} → Word w → Step ps → Step (word w ∷ dot ∷ ps)
dot_step h (program p) = program (dotted h p)
dot_step h (role s p) = role (dot_step h s) p

at_step : {w : List ℕ} {ps : List Part} → Word w → Step ps → Step (word w ∷ at ∷ ps)
at_step h (program p) = role (program (single h)) p
at_step h (role s p) = role (at_step h s) p

dot_name : {w : List ℕ} {ps : List Part} → Word w → Steps ps → Steps (word w ∷ dot ∷ ps)
dot_name h (only s) = only (dot_step h s)
dot_name h (joined n s) = joined (dot_name h n) s

at_name : {w : List ℕ} {ps : List Part} → Word w → Steps ps → Steps (word w ∷ at ∷ ps)
at_name h (only s) = only (at_step h s)
at_name h (joined n s) = joined (at_name h n) s

plus_name : {w : List ℕ} {ps : List Part} → Word w → Steps ps → Steps (word w ∷ plus ∷ ps)
plus_name h (only s) = joined (only (program (single h))) s
plus_name h (joined n s) = joined (plus_name h n) s

-- words joined by marks are a name's
pub joined_name : {t : List ℕ} → Joined mark_byte t → Spelled Steps t
joined_name (lone {w = w} h) = record { parts = word w ∷ []; form = only (program (single h)); spelling = append-nil w }
joined_name (linked {w = w} {t = t} {m = m} h is c) =
    let r = joined_name c in
    let with-mark : (p : Part) → Steps (word w ∷ p ∷ r.parts) → m ∷ [] ≡ bytes_of p → Spelled Steps (w ++ (m ∷ t)) = λ p form e. record { parts = word w ∷ p ∷ r.parts; form = form; spelling = λ i. w ++ (sym e i ++ r.spelling i) } in
    ⊎_elim
    (⊎_elim (λ e. with-mark dot (dot_name h r.form) (ap (λ b. b ∷ []) e)) (λ e. with-mark at (at_name h r.form) (ap (λ b. b ∷ []) e)))
    (λ e. with-mark plus (plus_name h r.form) (ap (λ b. b ∷ []) e))
    (mark_cases m is)

-- words joined by dots are a partial name's
pub joined_partial : {t : List ℕ} → Joined dot_byte t → Spelled Partial t
joined_partial (lone {w = w} h) = record { parts = word w ∷ []; form = single h; spelling = append-nil w }
joined_partial (linked {w = w} {t = t} {m = m} h is c) =
    let r = joined_partial c in
    record { parts = word w ∷ dot ∷ r.parts; form = dotted h r.form; spelling = λ i. w ++ (sym (eqb-true m 46 is) i ∷ r.spelling i) }

pub name_joined : {t : List ℕ} → Spelled Steps t → Joined mark_byte t
name_joined r = subst (Joined mark_byte) r.spelling (steps_joined r.form)

pub spelled_partial : {t : List ℕ} → Spelled Partial t → Joined dot_byte t
spelled_partial r = subst (Joined dot_byte) r.spelling (partial_joined dot_byte refl r.form)
