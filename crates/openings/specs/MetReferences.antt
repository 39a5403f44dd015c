-- What meeting all references of one text answers.
use Rattle.std.specs.Prelude.{◌≡◌, ℕ, ◌⊎◌, List, [], ◌∷◌}
use Rattle.positions.specs.Places.{Has}
use Rattle.faults.specs.declared.fault.Fault.{Fault}
use Rattle.openings.specs.References.{Reference}
use Rattle.openings.specs.Opening.{Name, Meaning, Numbered, MeetsAll, Halts}

-- one of the references names the group
abbrev pub Named : List Reference → Name → Type 0
Named [] g = ⊥
Named (r ∷ rs) g = (r.name ≡ g) ⊎ Named rs g

-- all references are met, and the set holds the numbers of the groups that they name
pub record AllMet (M : Meaning) (gs : List Name) (rs : List Reference) (gs' : List Name) (named : ℕ) : Type 0 where
  pub met : MeetsAll M gs rs gs'
  pub only : (k : ℕ) → Has named k → (g : Name) × (Named rs g × Numbered gs' g k)
  pub every : (g : Name) → Named rs g → (k : ℕ) × (Numbered gs' g k × Has named k)

-- the references of a text cannot all be met: the fault, as of a call's first text
pub record HaltsIn (M : Meaning) (gs : List Name) (rs : List Reference) (f : Fault) : Type 0 where
  pub first : f.text ≡ 0
  pub halts : Halts M gs rs f.kind f.place
