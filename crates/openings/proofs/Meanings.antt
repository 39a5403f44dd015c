-- What is met and read by one meaning, by another.
use Rattle.std.proofs.Common.{◌≡◌, ℕ, Bool, true, false, List, [], ◌∷◌, ◌++◌, is_some, Some, None, Option, sym, refl, ap, ◌∙◌, arith}
use borrow.Author.Tests.{clash}
use Rattle.std.proofs.lemmas.Grind.{common_steps}
use Rattle.faults.specs.declared.fault.Fault.{Fault}
use Rattle.faults.specs.declared.kind.Kind.{Kind}
use Rattle.openings.specs.References.{Reference}
use Rattle.openings.specs.Opening.{Name, Meaning, Known, Meets, again, new, MeetsAll, met, meet, Halts, surplus, lacking, later, TextAt, the_list, the_group, ReadTo, start, turn}
use Rattle.openings.specs.MetReferences.{AllMet, HaltsIn}
use Rattle.openings.specs.Membership.{having, Agrees}
use Rattle.openings.proofs.Knowing.{numbered_at, push_keeps, push_known}
use Rattle.openings.proofs.Meeting.{meets_keeps}
use Rattle.openings.proofs.Collecting.{AllHave, read_have}

module _ {M M' : Meaning} where
  -- what is met by one meaning is met by another that has all the names
  pub meets_had : {gs gs' : List Name} {rs : List Reference} → AllHave M' gs' → MeetsAll M gs rs gs' → MeetsAll M' gs rs gs'
  meets_had have met = met
  meets_had have (meet (again k) ms) = meet (again k) (meets_had have ms)
  meets_had have (meet (new u few s) ms) = meet (new u few (let k = push_known _ _ in have _ (k.0, meets_keeps ms k.1))) (meets_had have ms)

  pub met_had : {gs gs' : List Name} {rs : List Reference} {named : ℕ} → AllHave M' gs' → AllMet M gs rs gs' named → AllMet M' gs rs gs' named
  met_had have a = record { met = meets_had have a.met; only = a.only; every = a.every }

  -- what is read by one meaning is read by another that has the same texts
  pub text_across : {list : List ℕ} {gs : List Name} {i : ℕ} {text : List ℕ} → ((g : Name) → Known gs g → M' g ≡ M g) → TextAt M list gs i text → TextAt M' list gs i text
  text_across agree (the_list z e) = the_list z e
  text_across agree (the_group k is lt has) = the_group k is lt (agree _ (k, numbered_at k lt) ∙ has)

  pub read_across : {list : List ℕ} {gs : List Name} {n : ℕ} → ((g : Name) → Known gs g → M' g ≡ M g) → ReadTo M list n gs → ReadTo M' list n gs
  read_across agree start = start
  read_across agree (turn is r at l f ms) =
      let before : (g : Name) → Known _ g → M' g ≡ M g = λ g k. agree g (k.0, meets_keeps ms k.1) in
      turn is (read_across before r) (text_across before at) l f (meets_had (λ g k. ap is_some (agree g k) ∙ read_have (turn is r at l f ms) g k) ms)

-- a name that is had is there, and no other is
module _ (has : Name → Bool) (g : Name) where
  had_there : is_some (having has g) ≡ true → has g ≡ true
  had_there s = grind (arith, common_steps)

  had_not : having has g ≡ None → has g ≡ false
  had_not e = grind (arith, common_steps)

none_is : (o : Option (List ℕ)) → false ≡ is_some o → o ≡ None
none_is None e = refl
none_is (Some t) e = absurd (clash e)

module _ (has : Name → Bool) (M : Meaning) where
  agrees_on : {gs : List Name} (h : Name) → Agrees gs has M → Agrees (gs ++ (h ∷ [])) has M
  agrees_on h agree g unknown = agree g (λ k. unknown (k.0, push_keeps _ _ k.1))

  -- a reference is met by a meaning that has what is there
  meets_there : {gs gs' : List Name} {g : Name} → Agrees gs has M → Meets (having has) gs g gs' → Meets M gs g gs'
  meets_there agree (again k) = again k
  meets_there agree (new u few s) = new u few (sym (agree _ u) ∙ had_there has _ s)

  pub all_there : {gs gs' : List Name} {rs : List Reference} → Agrees gs has M → MeetsAll (having has) gs rs gs' → MeetsAll M gs rs gs'
  all_there agree met = met
  all_there agree (meet (again k) ms) = meet (again k) (all_there agree ms)
  all_there agree (meet (new u few s) ms) = meet (meets_there agree (new u few s)) (all_there (agrees_on _ agree) ms)

  -- or it halts at the same
  pub halts_there : {gs : List Name} {rs : List Reference} {kind : Kind} {place : ℕ} → Agrees gs has M → Halts (having has) gs rs kind place → Halts M gs rs kind place
  halts_there agree (surplus u full) = surplus u full
  halts_there agree (lacking u few e) = lacking u few (none_is _ (sym (had_not has _ e) ∙ agree _ u))
  halts_there agree (later (again k) h) = later (again k) (halts_there agree h)
  halts_there agree (later (new u few s) h) = later (meets_there agree (new u few s)) (halts_there (agrees_on _ agree) h)

  pub halt_there : {gs : List Name} {rs : List Reference} {f : Fault} → Agrees gs has M → HaltsIn (having has) gs rs f → HaltsIn M gs rs f
  halt_there agree h = record { first = h.first; halts = halts_there agree h.halts }
