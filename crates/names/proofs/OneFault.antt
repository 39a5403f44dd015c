-- A text has one fault at most as a name, a partial name or a path, and none if it is lawful; a name has one row of
-- parts.
use Rattle.std.proofs.Common.{◌≡◌, ℕ, false, List, [], ◌∷◌, ◌++◌, length, get_or, take, drop, sym, refl, ap, ◌∙◌, subst, ⊎_elim, append-nil, arith}
use borrow.Author.Tests.{clash}
use Rattle.std.proofs.lemmas.Bool.{cases_lt}
use Rattle.faults.specs.declared.fault.Fault.{Fault}
use Rattle.faults.specs.declared.kind.Kind.TheVariants.{NameTooLong, PathUnlawful}
use Rattle.names.specs.Language.{Stuck}
use Rattle.names.specs.Words.{word_byte, WordBytes}
use Rattle.names.specs.Names.{Part, word, spell, Partial, Steps, Spelled, LawfulName, LawfulPartial}
use Rattle.names.specs.Paths.{IsPath, LawfulPath}
use Rattle.names.specs.Faults.{fault, kind_at, NameFault, long, stuck, parts, PartialFault, long_partial, stuck_partial, PathFault, long_path, stuck_path}
use Rattle.names.proofs.Forms.{mark_apart}
use Rattle.names.proofs.Places.{Mark, mark_of, mark_of_lem, Alternates, last, next, alternates}
use Rattle.faults.specs.Answers.{Accepted, Refused}
use Rattle.names.proofs.Leaving.{stuck_out, stuck_unique, accepted, refused}

-- a word and a byte that is none of a word's are cut in one way
cut_word : (w v s t : List ℕ) (b c : ℕ) → WordBytes w → WordBytes v → word_byte b ≡ false → word_byte c ≡ false → w ++ (b ∷ s) ≡ v ++ (c ∷ t) → (w ≡ v) × ((b ≡ c) × (s ≡ t))
cut_word [] [] s t b c hw hv hb hc e = (refl, (ap (λ l. get_or l 0 0) e, ap (drop 1) e))
cut_word [] (x ∷ v) s t b c hw hv hb hc e = absurd (clash (sym hb ∙ ap (λ l. word_byte (get_or l 0 0)) e ∙ hv.0))
cut_word (x ∷ w) [] s t b c hw hv hb hc e = absurd (clash (sym hc ∙ ap (λ l. word_byte (get_or l 0 0)) (sym e) ∙ hw.0))
cut_word (x ∷ w) (y ∷ v) s t b c hw hv hb hc e =
    let r = cut_word w v s t b c hw.1 hv.1 hb hc (ap (drop 1) e) in
    ((λ i. ap (λ l. get_or l 0 0) e i ∷ r.0 i), r.1)

-- a word is no word with more behind it
no_more : (w v t : List ℕ) (b : ℕ) → WordBytes w → word_byte b ≡ false → w ≡ v ++ (b ∷ t) → ⊥
no_more [] [] t b h out e = omega (arith, ap length e)
no_more [] (y ∷ v) t b h out e = omega (arith, ap length e)
no_more (x ∷ w) [] t b h out e = clash (sym out ∙ ap (λ l. word_byte (get_or l 0 0)) (sym e) ∙ h.0)
no_more (x ∷ w) (y ∷ v) t b h out e = no_more w v t b h.1 out (ap (drop 1) e)

-- a mark is the mark of its byte
same_mark : (p q : Part) (b c : ℕ) → Mark p b → Mark q c → b ≡ c → p ≡ q
same_mark p q b c hp hq e = sym (mark_of_lem p b hp) ∙ ap mark_of e ∙ mark_of_lem q c hq

unique : {ps qs : List Part} → Alternates ps → Alternates qs → spell ps ≡ spell qs → ps ≡ qs
unique (last {w = w} h) (last {w = v} k) e = ap (λ x. word x ∷ []) (sym (append-nil w) ∙ e ∙ append-nil v)
unique (last {w = w} h) (next {w = v} {m = m} {ps = ps} b k is a) e = absurd (no_more w v (spell ps) b h.bytes (mark_apart b is.1) (sym (append-nil w) ∙ e ∙ ap (λ u. v ++ (u ++ spell ps)) is.0))
unique (next {w = w} {m = m} {ps = ps} b h is a) (last {w = v} k) e = absurd (no_more v w (spell ps) b k.bytes (mark_apart b is.1) (sym (append-nil v) ∙ sym e ∙ ap (λ u. w ++ (u ++ spell ps)) is.0))
unique (next {w = w} {m = m} {ps = ps} b h is a) (next {w = v} {m = n} {ps = qs} c k js a') e =
    let r = cut_word w v (spell ps) (spell qs) b c h.bytes k.bytes (mark_apart b is.1) (mark_apart c js.1) (sym (ap (λ u. w ++ (u ++ spell ps)) is.0) ∙ e ∙ ap (λ u. v ++ (u ++ spell qs)) js.0) in
    let rest = unique a a' r.1.1 in
    λ i. word (r.0 i) ∷ same_mark m n b c is js r.1.0 i ∷ rest i

pub unique_parts : (ps qs : List Part) → Steps ps → Steps qs → spell ps ≡ spell qs → ps ≡ qs
unique_parts ps qs s t e = unique (alternates s) (alternates t) e

-- what leaves a language is none of its texts
left : (L : List ℕ → Type 0) (text : List ℕ) (p : ℕ) → Stuck L text p → L text → ⊥
left L text p s l = ⊎_elim (λ lt. stuck_out L text [] p s lt ([], subst L (sym (append-nil _ ∙ append-nil text)) l)) (λ le. s.short (omega (arith, s.within)) l) (cases_lt p (length text))

module _ (text : List ℕ) where
  pub one_name_fault : (f g : Fault) → NameFault text f → NameFault text g → f ≡ g
  one_name_fault f g (long a) (long b) = refl
  one_name_fault f g (long a) (stuck b t) = absurd (omega arith)
  one_name_fault f g (long a) (parts b t e m) = absurd (omega arith)
  one_name_fault f g (stuck a s) (long b) = absurd (omega arith)
  one_name_fault f g (stuck {place = p} a s) (stuck {place = q} b t) = ap (λ x. fault (kind_at text x) x) (stuck_unique (Spelled Steps) text p q s t)
  one_name_fault f g (stuck {place = p} a s) (parts {ps = ps} b t e m) = absurd (left (Spelled Steps) text p s (record { parts = ps; form = t; spelling = e }))
  one_name_fault f g (parts a t e m) (long b) = absurd (omega arith)
  one_name_fault f g (parts {ps = ps} a t e m) (stuck {place = p} b s) = absurd (left (Spelled Steps) text p s (record { parts = ps; form = t; spelling = e }))
  one_name_fault f g (parts {ps = ps} a s e m) (parts {ps = qs} b t h n) = ap (λ x. fault NameTooLong (length (spell (take 63 x)))) (unique_parts ps qs s t (e ∙ sym h))

  pub no_name_fault : (f : Fault) → NameFault text f → LawfulName text → ⊥
  no_name_fault f (long a) l = omega (arith, l.1.short)
  no_name_fault f (stuck {place = p} a s) l = left (Spelled Steps) text p s (record { parts = l.0; form = l.1.form; spelling = l.1.spelling })
  no_name_fault f (parts {ps = ps} a s e m) l = omega (arith, l.1.few, ap length (unique_parts ps l.0 s l.1.form (e ∙ sym l.1.spelling)))

  pub one_partial_fault : (f g : Fault) → PartialFault text f → PartialFault text g → f ≡ g
  one_partial_fault f g (long_partial a) (long_partial b) = refl
  one_partial_fault f g (long_partial a) (stuck_partial b t) = absurd (omega arith)
  one_partial_fault f g (stuck_partial a s) (long_partial b) = absurd (omega arith)
  one_partial_fault f g (stuck_partial {place = p} a s) (stuck_partial {place = q} b t) = ap (λ x. fault (kind_at text x) x) (stuck_unique (Spelled Partial) text p q s t)

  pub no_partial_fault : (f : Fault) → PartialFault text f → LawfulPartial text → ⊥
  no_partial_fault f (long_partial a) l = omega (arith, l.short)
  no_partial_fault f (stuck_partial {place = p} a s) l = left (Spelled Partial) text p s l.form

  pub one_path_fault : (f g : Fault) → PathFault text f → PathFault text g → f ≡ g
  one_path_fault f g (long_path a) (long_path b) = refl
  one_path_fault f g (long_path a) (stuck_path b t) = absurd (omega arith)
  one_path_fault f g (stuck_path a s) (long_path b) = absurd (omega arith)
  one_path_fault f g (stuck_path {place = p} a s) (stuck_path {place = q} b t) = ap (fault PathUnlawful) (stuck_unique IsPath text p q s t)

  pub no_path_fault : (f : Fault) → PathFault text f → LawfulPath text → ⊥
  no_path_fault f (long_path a) l = omega (arith, l.short)
  no_path_fault f (stuck_path {place = p} a s) l = left IsPath text p s l.form

  -- so a check answers by any fault that it finds
  pub name_accepted : LawfulName text → Accepted (LawfulName text) (NameFault text)
  name_accepted = accepted (LawfulName text) (NameFault text) one_name_fault no_name_fault

  pub name_refused : (f : Fault) → NameFault text f → Refused (LawfulName text) (NameFault text) f
  name_refused = refused (LawfulName text) (NameFault text) one_name_fault no_name_fault

  pub partial_accepted : LawfulPartial text → Accepted (LawfulPartial text) (PartialFault text)
  partial_accepted = accepted (LawfulPartial text) (PartialFault text) one_partial_fault no_partial_fault

  pub partial_refused : (f : Fault) → PartialFault text f → Refused (LawfulPartial text) (PartialFault text) f
  partial_refused = refused (LawfulPartial text) (PartialFault text) one_partial_fault no_partial_fault

  pub path_accepted : LawfulPath text → Accepted (LawfulPath text) (PathFault text)
  path_accepted = accepted (LawfulPath text) (PathFault text) one_path_fault no_path_fault

  pub path_refused : (f : Fault) → PathFault text f → Refused (LawfulPath text) (PathFault text) f
  path_refused = refused (LawfulPath text) (PathFault text) one_path_fault no_path_fault
