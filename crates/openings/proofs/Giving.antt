-- What begins an opening, and what gives it one text more.
use Rattle.std.proofs.Common.{◌≡◌, ℕ, zero, suc, ◌+◌, ◌<◌, ◌≤◌, Bool, List, [], ◌∷◌, ◌++◌, length, get_or, set, take, Some, Ok, Err, Result, MatchResult, sym, refl, ap, ◌∙◌, subst, arith, add-one, append_assoc}
use Rattle.std.proofs.lemmas.List.{append-nil}
use Rattle.std.proofs.lemmas.Grind.{common_steps}
use Rattle.std.specs.Result.{IsOk}
use Rattle.std.proofs.Math.Seq.{take-suc}
use Rattle.faults.specs.declared.fault.Fault.{Fault}
use Rattle.links.specs.declared.links.Links.{Links}
use Rattle.links.specs.Links.{Added}
use Rattle.lists.specs.Texts.{LawfulList}
use Rattle.openings.specs.References.{Reference, Refers}
use Rattle.openings.specs.Opening.{Name, Meaning, Numbered, again, new, MeetsAll, met, meet}
use Rattle.openings.specs.Opened.{OpenFault}
use Rattle.openings.specs.MetReferences.{AllMet, HaltsIn}
use Rattle.openings.specs.Membership.{having, Agrees}
use Rattle.openings.specs.Pairs.{pairs}
use Rattle.openings.specs.Progress.{Progress, HasTexts, Fits, ReadWell}
use Rattle.openings.proofs.Meeting.{meets_keeps}
use Rattle.openings.proofs.Collecting.{AllHave, meets_have, references, list_halts, list_gathered, gather_more}
use Rattle.openings.proofs.Meanings.{met_had, all_there, halt_there}
use Rattle.openings.proofs.Pairing.{pairs_more, texts_front, texts_last}

module _ (has : Name → Bool) {list : List ℕ} {gs : List Name} (lawful : LawfulList list) (none : gs ≡ []) where
  module _ {gs' : List Name} {named : ℕ} (all : (rs : List Reference) → Refers list rs → AllMet (having has) gs rs gs' named) where
    -- an opening that has met what its list names has read well
    pub begun_well : (texts : List (List ℕ)) {links : Links} → links.len ≡ 0 → ReadWell list gs' texts links
    begun_well texts rows M fits = list_gathered lawful texts none (λ rs f. met_had fits.names (all rs f)) rows

    -- a meaning that has what is there has those names
    pub begun_have : (M : Meaning) → Agrees [] has M → AllHave M gs'
    begun_have M agree =
        let (rs, f) = references lawful in
        meets_have (all_there has M agree (subst (λ x. MeetsAll (having has) x rs gs') none (all rs f).met)) (λ g k. absurd (omega (arith, k.1.below)))

  pub begun_fault : (M : Meaning) {f : Fault} → Agrees [] has M → ((rs : List Reference) → Refers list rs → HaltsIn (having has) gs rs f) → OpenFault M list f
  begun_fault M agree h = list_halts lawful none (λ rs f. halt_there has M (subst (λ x. Agrees x has M) (sym none) agree) (h rs f))

-- where no text has been given, a meaning has the texts that were
pub none_given : (M : Meaning) (gs : List Name) (texts : List (List ℕ)) (n : ℕ) → n ≡ 0 → HasTexts M (pairs (take n gs) texts)
none_given M gs texts zero e = tt
none_given M gs texts (suc n) e = absurd (omega (arith, e))

-- names that are met come after those that were known
meets_after : {M : Meaning} {gs gs' : List Name} {rs : List Reference} → MeetsAll M gs rs gs' → (more : List Name) × (gs' ≡ gs ++ more)
meets_after {gs = gs} met = ([], sym (append-nil gs))
meets_after (meet (again k) ms) = meets_after ms
meets_after (meet {gs = gs} {r = r} (new u few s) ms) = let x = meets_after ms in (r.name ∷ x.0, x.1 ∙ append_assoc gs (r.name ∷ []) x.0)

-- the first names of a longer list
take_front : (n : ℕ) (gs more : List Name) → n ≤ length gs → take n (gs ++ more) ≡ take n gs
take_front zero gs more le = refl
take_front (suc n) [] more le = absurd (omega arith)
take_front (suc n) (g ∷ gs) more le = ap (λ x. g ∷ x) (take_front n gs more (omega arith))

-- as many names as have been given texts, and the one that is due
pub take_more : {M : Meaning} {gs gs' : List Name} {rs : List Reference} {name : Name} (n : ℕ) → MeetsAll M gs rs gs' → Numbered gs name n → take (n + 1) gs' ≡ take n gs ++ (name ∷ [])
take_more {gs = gs} {gs' = gs'} {name = name} n ms due =
    let (more, is) = meets_after ms in
    let there = meets_keeps ms due in
    ap (λ k. take k gs') (add-one n) ∙ take-suc gs' n [] there.below ∙ ap (λ x. x ++ (get_or gs' n [] ∷ [])) (ap (take n) is ∙ take_front n gs more (omega (arith, due.below))) ∙ ap (λ x. take n gs ++ (x ∷ [])) there.is

-- so it is with the table of names and texts
pub given_more : {M : Meaning} {gs gs' : List Name} {rs : List Reference} {name : Name} (text : List ℕ) (texts : List (List ℕ)) (n : ℕ) → MeetsAll M gs rs gs' → Numbered gs name n → length (take n gs) ≡ n → n < length texts → pairs (take (n + 1) gs') (set texts n text) ≡ pairs (take n gs) texts ++ (record { name = name; text = text } ∷ [])
given_more {gs = gs} {name = name} text texts n ms due size room =
    ap (λ x. pairs x (set texts n text)) (take_more n ms due) ∙ ap (λ k. pairs (take n gs ++ (name ∷ [])) (set texts k text)) (sym size) ∙ pairs_more (take n gs) texts name text (omega (arith, size, room))

module _ (has : Name → Bool) {gs gs' : List Name} {named : ℕ} (text : List ℕ) (lawful : LawfulList text) (all : (rs : List Reference) → Refers text rs → AllMet (having has) gs rs gs' named) where
  -- a meaning that has what is there has the names that are met
  pub gave_have : (M : Meaning) → Agrees gs has M → AllHave M gs → AllHave M gs'
  gave_have M agree have = let (rs, f) = references lawful in meets_have (all_there has M agree (all rs f).met) have

  -- one text more has been read well
  pub gave_well : {list : List ℕ} {texts : List (List ℕ)} {links links' : Links} {name : Name} → Numbered gs name links.len → length (take links.len gs) ≡ links.len → links.len < length texts → ReadWell list gs texts links → Added links named links' → ReadWell list gs' (set texts links.len text) links'
  gave_well {list} {texts} {links} {links'} {name} due size room well added M fits =
      let n = links.len in
      let (rs, f) = references lawful in
      let ms = (all rs f).met in
      let more = subst (λ k. HasTexts M (pairs (take k gs') (set texts n text))) added.count fits.texts in
      let both = subst (HasTexts M) (given_more text texts n ms due size room) more in
      let before : Fits M gs (pairs (take n gs) texts) = record { texts = texts_front M (pairs (take n gs) texts) _ both; names = λ g k. fits.names g (k.0, meets_keeps ms k.1) } in
      let own : M (get_or gs n []) ≡ Some text = ap M due.is ∙ texts_last M (pairs (take n gs) texts) (record { name = name; text = text }) both in
      let G = gather_more text rs (well M before) due.below room own lawful f (met_had fits.names (all rs f)) added in
      subst (λ k. Progress M list k gs' (set texts n text) links') (sym added.count) G

-- where there is room, one group more is put into the links
module _ {X D : Type 0} (old new : Links) (named : ℕ) (r : Result X D) (pushed : MatchResult r (λ _. Added old named new) (λ _. (old.len ≡ 32) × (new ≡ old))) (room : old.len < 32) where
  pub added_there : Added old named new
  added_there = by_result r pushed
    where
      by_result : (r : Result X D) → MatchResult r (λ _. Added old named new) (λ _. (old.len ≡ 32) × (new ≡ old)) → Added old named new
      by_result (Ok x) h = h
      by_result (Err e) h = absurd (omega (arith, h.0))

  pub added_ok : IsOk r
  added_ok = by_result r pushed
    where
      by_result : (r : Result X D) → MatchResult r (λ _. Added old named new) (λ _. (old.len ≡ 32) × (new ≡ old)) → IsOk r
      by_result (Ok x) h = grind (arith, common_steps)
      by_result (Err e) h = absurd (omega (arith, h.0))
