-- The checks that calls make one after another, and the faults that they find.
use Rattle.std.specs.Prelude.{◌≡◌, ◌⊎◌, ℕ, List, Some, None, Option, Result, Err}
use Rattle.faults.specs.declared.fault.Fault.{Fault}
use Rattle.faults.specs.declared.kind.Kind.TheVariants.{NoRowFree}
use Rattle.names.specs.Faults.{fault}
use Rattle.lists.specs.Faults.{ListFault}
use Rattle.histories.specs.Histories.{History}
use Rattle.histories.specs.Processes.{given, running}
use Rattle.histories.specs.Places.{posted, places}

-- the call is refused by a fault that this check finds; or it finds none, and the rest says what is answered
abbrev pub Unless : {A : Type 0} → (Fault → Type 0) → Result A Fault → Type 0 → Type 0
Unless Found result Rest = ((f : Fault) × (Found f × (result ≡ Err f))) ⊎ (((f : Fault) → Found f → ⊥) × Rest)

-- the fault is found in this text of the call
abbrev pub InText : ℕ → (Fault → Type 0) → Fault → Type 0
InText n Found f = (g : Fault) × (Found g × (f ≡ record { kind = g.kind; text = n; place = g.place }))

-- a second list is text 1, and where it is absent it has no fault
abbrev pub SecondFault : Option (List ℕ) → Fault → Type 0
SecondFault None f = ⊥
SecondFault (Some text) f = InText 1 (ListFault text) f

-- no row is free for a new process, or all numbers were given
pub record ProcessRowFault (past : History) (f : Fault) : Type 0 where
  pub told : f ≡ fault NoRowFree 0
  pub due : (running past ≡ 64) ⊎ (given past ≡ 4294967295)

-- no row is free for a path that is not posted
pub record PlaceRowFault (past : History) (path : List ℕ) (f : Fault) : Type 0 where
  pub told : f ≡ fault NoRowFree 0
  pub fresh : posted past path ≡ None
  pub due : places past ≡ 32
