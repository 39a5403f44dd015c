-- References that are met one after another.
use Rattle.std.proofs.Common.{◌≡◌, ℕ, ◌≤◌, ◌⊎◌, List, [], ◌∷◌, ◌++◌, length, is_some, None, sym, refl, ap, ◌∙◌, subst, inl, inr, ⊎_elim, arith}
use borrow.Author.Tests.{clash}
use Rattle.std.proofs.lemmas.List.{length_push}
use Rattle.faults.specs.declared.kind.Kind.{Kind}
use Rattle.openings.specs.References.{Reference}
use Rattle.openings.specs.Opening.{Name, Meaning, Numbered, Known, Meets, again, new, MeetsAll, met, meet, Halts, surplus, lacking, later, ChecksFor, now_checked, later_checked, Distinct}
use Rattle.openings.specs.MetReferences.{Named}
use Rattle.openings.proofs.Knowing.{push_keeps, push_known, push_source, push_distinct}

module _ {M : Meaning} where
  -- meeting references and then others is meeting them all
  pub meets_append : {gs gs' gs'' : List Name} {rs ss : List Reference} → MeetsAll M gs rs gs' → MeetsAll M gs' ss gs'' → MeetsAll M gs (rs ++ ss) gs''
  meets_append met ns = ns
  meets_append (meet m ms) ns = meet m (meets_append ms ns)

  -- and so it is where others halt
  pub halts_append : {gs gs' : List Name} {rs ss : List Reference} {kind : Kind} {place : ℕ} → MeetsAll M gs rs gs' → Halts M gs' ss kind place → Halts M gs (rs ++ ss) kind place
  halts_append met h = h
  halts_append (meet m ms) h = later m (halts_append ms h)

  -- a reference is met in one way
  pub meets_one : {gs a b : List Name} {g : Name} → Meets M gs g a → Meets M gs g b → a ≡ b
  meets_one (again k) (again k') = refl
  meets_one (again k) (new n lt s) = absurd (n k)
  meets_one (new n lt s) (again k) = absurd (n k)
  meets_one (new n lt s) (new n' lt' s') = refl

  -- and so are references one after another
  pub meets_all_one : {gs a b : List Name} {rs : List Reference} → MeetsAll M gs rs a → MeetsAll M gs rs b → a ≡ b
  meets_all_one met met = refl
  meets_all_one {b = b} (meet {rs = rs} m ms) (meet m' ms') = meets_all_one ms (subst (λ x. MeetsAll M x rs b) (meets_one m' m) ms')

  -- no 33rd group is met
  pub no_surplus : {gs a : List Name} {g : Name} → (Known gs g → ⊥) → 32 ≤ length gs → Meets M gs g a → ⊥
  no_surplus n le (again k) = n k
  no_surplus n le (new n' lt s) = omega arith

  -- nor one that the book lacks
  pub no_lacking : {gs a : List Name} {g : Name} → (Known gs g → ⊥) → M g ≡ None → Meets M gs g a → ⊥
  no_lacking n e (again k) = n k
  no_lacking n e (new n' lt s) = clash (sym (ap is_some e) ∙ s)

  -- references that halt are not all met
  pub halts_not_met : {gs a : List Name} {rs : List Reference} {kind : Kind} {place : ℕ} → Halts M gs rs kind place → MeetsAll M gs rs a → ⊥
  halts_not_met (surplus n le) (meet m ms) = no_surplus n le m
  halts_not_met (lacking n lt e) (meet m ms) = no_lacking n e m
  halts_not_met {a = a} (later {rs = rs} m h) (meet m' ms) = halts_not_met h (subst (λ x. MeetsAll M x rs a) (meets_one m' m) ms)

  -- references halt in one way
  pub halts_one : {gs : List Name} {rs : List Reference} {kind kind' : Kind} {place place' : ℕ} → Halts M gs rs kind place → Halts M gs rs kind' place' → (kind ≡ kind') × (place ≡ place')
  halts_one (surplus n le) (surplus n' le') = (refl, refl)
  halts_one (surplus n le) (lacking n' lt e) = absurd (omega arith)
  halts_one (surplus n le) (later m h) = absurd (no_surplus n le m)
  halts_one (lacking n lt e) (surplus n' le) = absurd (omega arith)
  halts_one (lacking n lt e) (lacking n' lt' e') = (refl, refl)
  halts_one (lacking n lt e) (later m h) = absurd (no_lacking n e m)
  halts_one (later m h) (surplus n le) = absurd (no_surplus n le m)
  halts_one (later m h) (lacking n lt e) = absurd (no_lacking n e m)
  halts_one {kind' = kind} {place' = place} (later {rs = rs} m h) (later m' h') = halts_one h (subst (λ x. Halts M x rs kind place) (meets_one m' m) h')

  -- names keep their numbers
  pub meets_keeps : {gs gs' : List Name} {rs : List Reference} {g : Name} {k : ℕ} → MeetsAll M gs rs gs' → Numbered gs g k → Numbered gs' g k
  meets_keeps met n = n
  meets_keeps (meet (again k) ms) n = meets_keeps ms n
  meets_keeps (meet (new u lt s) ms) n = meets_keeps ms (push_keeps _ _ n)

  -- known names stay distinct
  pub meets_distinct : {gs gs' : List Name} {rs : List Reference} → MeetsAll M gs rs gs' → Distinct gs → Distinct gs'
  meets_distinct met d = d
  meets_distinct (meet (again k) ms) d = meets_distinct ms d
  meets_distinct (meet (new u lt s) ms) d = meets_distinct ms (push_distinct _ _ u d)

  -- and they stay at most 32
  pub meets_few : {gs gs' : List Name} {rs : List Reference} → MeetsAll M gs rs gs' → length gs ≤ 32 → length gs' ≤ 32
  meets_few met le = le
  meets_few (meet (again k) ms) le = meets_few ms le
  meets_few (meet {gs = gs} {r = r} (new u lt s) ms) le = meets_few ms (omega (arith, length_push gs r.name))

  -- what is met is known
  meets_known : {gs gs' : List Name} {g : Name} → Meets M gs g gs' → Known gs' g
  meets_known (again k) = k
  meets_known (new u lt s) = push_known _ _

  -- every name that is referred to is known in the end
  pub names_known : {gs gs' : List Name} (before after : List Reference) (r : Reference) → MeetsAll M gs (before ++ (r ∷ after)) gs' → Known gs' r.name
  names_known [] after r (meet m ms) = let k = meets_known m in (k.0, meets_keeps ms k.1)
  names_known (b ∷ bs) after r (meet m ms) = names_known bs after r ms

  -- every name that is checked for is known in the end
  pub checked_known : {gs gs' : List Name} {rs : List Reference} {g : Name} → ChecksFor M gs rs g → MeetsAll M gs rs gs' → Known gs' g
  checked_known (now_checked u lt) (meet m ms) = let k = meets_known m in (k.0, meets_keeps ms k.1)
  checked_known {gs' = gs'} (later_checked {rs = rs} m c) (meet m' ms) = checked_known c (subst (λ x. MeetsAll M x rs gs') (meets_one m' m) ms)

  -- a name that is known in the end was so at the start, or was checked for
  pub known_checked : {gs gs' : List Name} {rs : List Reference} {g : Name} → MeetsAll M gs rs gs' → Known gs' g → Known gs g ⊎ ChecksFor M gs rs g
  known_checked met k = inl k
  known_checked (meet (again k') ms) k = ⊎_elim inl (λ c. inr (later_checked (again k') c)) (known_checked ms k)
  known_checked {g = g} (meet {gs = gs} {r = r} {rs = rs} (new u lt s) ms) k =
      ⊎_elim
      (λ k'. ⊎_elim inl (λ e. inr (subst (ChecksFor M gs (r ∷ rs)) e (now_checked u lt))) (push_source _ _ k'))
      (λ c. inr (later_checked (new u lt s) c))
      (known_checked ms k)

  -- a name that is checked for is referred to
  pub checked_named : {gs : List Name} {rs : List Reference} {g : Name} → ChecksFor M gs rs g → Named rs g
  checked_named (now_checked u lt) = inl refl
  checked_named (later_checked m c) = inr (checked_named c)
