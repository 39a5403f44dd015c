-- What each call answers after a history. Its checks are made in the order in which they stand here.
use Rattle.std.specs.Prelude.{◌≡◌, ℕ, List, Some, None, Option, Result, Ok, Err, IsOk, MatchResult}
use denote.Ref.{Bor}
use Rattle.faults.specs.declared.fault.Fault.{Fault}
use Rattle.faults.specs.declared.kind.Kind.TheVariants.{NoSuchProcess, NoListInForce}
use Rattle.texts.specs.Shown.{shown}
use Rattle.names.specs.Faults.{fault, NameFault, PartialFault, PathFault}
use Rattle.lists.specs.declared.list.AccessList.{AccessList}
use Rattle.lists.specs.Faults.{ListFault}
use Rattle.histories.specs.Histories.{History}
use Rattle.histories.specs.Processes.{next_number, name_of, spawned, spawned_in_role}
use Rattle.histories.specs.Places.{Lists, posted, list_in_force}
use Rattle.station.specs.declared.number.ProcessNumber.{ProcessNumber}
use Rattle.station.specs.Checks.{Unless, InText, SecondFault, ProcessRowFault, PlaceRowFault}

-- a process is entered: the name that was made is checked as a whole name, then a row is due, and the next number is answered
abbrev pub EntryAnswer : History → List ℕ → Result ProcessNumber Fault → Type 0
EntryAnswer past name result =
    Unless (NameFault name) result
    (Unless (ProcessRowFault past) result
    (result ≡ Ok (record { 0 = next_number past })))

-- the process must run
abbrev pub OfProcess : {A : Type 0} → Option (List ℕ) → Result A Fault → (List ℕ → Type 0) → Type 0
OfProcess None result Rest = result ≡ Err (fault NoSuchProcess 0)
OfProcess (Some name) result Rest = Rest name

abbrev pub StartAnswer : History → List ℕ → Result ProcessNumber Fault → Type 0
StartAnswer past program result = Unless (PartialFault program) result (EntryAnswer past program result)

abbrev pub SpawnAnswer : History → ℕ → List ℕ → Result ProcessNumber Fault → Type 0
SpawnAnswer past parent program result =
    OfProcess (name_of past parent) result (λ name.
    Unless (PartialFault program) result
    (EntryAnswer past (spawned name program) result))

abbrev pub SpawnInRoleAnswer : History → ℕ → List ℕ → List ℕ → Result ProcessNumber Fault → Type 0
SpawnInRoleAnswer past parent role program result =
    OfProcess (name_of past parent) result (λ name.
    Unless (PartialFault program) result
    (Unless (InText 1 (PartialFault role)) result
    (EntryAnswer past (spawned_in_role name role program) result)))

abbrev pub SpawnItselfAnswer : History → ℕ → List ℕ → Result ProcessNumber Fault → Type 0
SpawnItselfAnswer past parent program result =
    OfProcess (name_of past parent) result (λ name. StartAnswer past program result)

abbrev pub EndAnswer : History → ℕ → Result Unit Fault → Type 0
EndAnswer past process result = OfProcess (name_of past process) result (λ name. IsOk result)

abbrev pub PostAnswer : History → List ℕ → List ℕ → Option (List ℕ) → Result Unit Fault → Type 0
PostAnswer past path own second result =
    Unless (PathFault path) result
    (Unless (ListFault own) result
    (Unless (SecondFault second) result
    (Unless (PlaceRowFault past path) result
    (IsOk result))))

-- lists must be posted at the path
abbrev pub OfPlace : Option Lists → Result Unit Fault → Type 0
OfPlace None result = result ≡ Err (fault NoListInForce 0)
OfPlace (Some lists) result = IsOk result

abbrev pub UnpostAnswer : History → List ℕ → Result Unit Fault → Type 0
UnpostAnswer past path result = Unless (PathFault path) result (OfPlace (posted past path) result)

-- the list in force is the one that is lent
abbrev pub Lent : Option (List ℕ) → Result (Bor AccessList) Fault → Type 0
Lent None result = result ≡ Err (fault NoListInForce 0)
Lent (Some list) result = MatchResult result (λ lent. shown lent.now.text ≡ list) (λ f. ⊥)

abbrev pub ForceAnswer : History → List ℕ → Result (Bor AccessList) Fault → Type 0
ForceAnswer past path result = Unless (PathFault path) result (Lent (list_in_force past path) result)
