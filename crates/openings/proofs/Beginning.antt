-- An opening that has met what its list names, and has been given no text.
use Rattle.std.proofs.Common.{◌≡◌, ℕ, Bool, List, [], refl, sym, subst}
use Rattle.faults.specs.declared.fault.Fault.{Fault}
use Rattle.links.specs.declared.links.Links.{Links}
use Rattle.lists.specs.Texts.{LawfulList}
use Rattle.openings.specs.declared.opening.Opening.{Opening}
use Rattle.openings.specs.References.{Reference, Refers}
use Rattle.openings.specs.Opening.{Name, Meaning, MeetsAll}
use Rattle.openings.specs.Opened.{OpenFault}
use Rattle.openings.specs.MetReferences.{AllMet, HaltsIn}
use Rattle.openings.specs.Membership.{having, Agrees}
use Rattle.openings.specs.Progress.{ReadWell}
use Rattle.openings.specs.OpeningState.{met, Through}
use Rattle.openings.proofs.Collecting.{AllHave}
use Rattle.openings.proofs.Meeting.{halts_not_met}
use Rattle.openings.proofs.Meanings.{halt_there}
use Rattle.openings.proofs.Giving.{begun_well, begun_have, begun_fault, none_given}

-- these groups are what the list names
abbrev pub NamedBy : (Name → Bool) → List ℕ → List Name → Type 0
NamedBy has list gs = (named : ℕ) × ((rs : List Reference) → Refers list rs → AllMet (having has) [] rs gs named)

module _ (has : Name → Bool) {list : List ℕ} (lawful : LawfulList list) where
  pub reads_well : {gs : List Name} → NamedBy has list gs → (texts : List (List ℕ)) (links : Links) → links.len ≡ 0 → ReadWell list gs texts links
  reads_well (named, all) texts links none = begun_well has lawful refl all texts none

  pub through : {gs : List Name} → NamedBy has list gs → (o : Opening) → met o ≡ gs → o.links.len ≡ 0 → (M : Meaning) → Agrees [] has M → Through M o
  through (named, all) o is none M agree = record {
    texts = none_given M _ _ _ none;
    names = subst (AllHave M) (sym is) (begun_have has lawful refl all M agree);
  }

  -- what cannot be met is the fault of the opening
  pub halted : {f : Fault} → ((rs : List Reference) → Refers list rs → HaltsIn (having has) [] rs f) → (M : Meaning) → Agrees [] has M → OpenFault M list f
  halted halts M agree = begun_fault has lawful refl M agree halts

  pub never_met : {f : Fault} → ((rs : List Reference) → Refers list rs → HaltsIn (having has) [] rs f) → (M : Meaning) → Agrees [] has M → (rs : List Reference) (gs : List Name) → Refers list rs → MeetsAll M [] rs gs → ⊥
  never_met halts M agree rs gs refers all = halts_not_met (halt_there has M agree (halts rs refers)).halts all
