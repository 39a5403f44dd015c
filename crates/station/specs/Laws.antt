-- Laws of all answers of a station.
use Rattle.std.specs.Prelude.{◌≡◌, ◌⊎◌, ◌↔◌, true, ℕ, List, [], length, is_some, ◌∷◌, Some, Option, Result, Ok, Err}
use denote.Ref.{Bor}
use Rattle.faults.specs.declared.fault.Fault.{Fault}
use Rattle.faults.specs.declared.kind.Kind.TheVariants.{NameTooLong}
use Rattle.names.specs.Names.{LawfulName, LawfulPartial}
use Rattle.names.specs.Faults.{NameFault}
use Rattle.lists.specs.declared.list.AccessList.{AccessList}
use Rattle.texts.specs.Shown.{shown}
use Rattle.histories.specs.Histories.{Call, History, Start, Spawn, SpawnInRole, SpawnItself}
use Rattle.histories.specs.Processes.{number_given, name_of, running, spawned, spawned_in_role}
use Rattle.histories.specs.Places.{posted, places}
use Rattle.station.specs.declared.number.ProcessNumber.{ProcessNumber}
use Rattle.station.specs.Answers.{StartAnswer, SpawnAnswer, SpawnInRoleAnswer, SpawnItselfAnswer, EndAnswer, PostAnswer, UnpostAnswer, ForceAnswer}

-- there is one such answer at most
abbrev pub One : {A : Type 0} → (Result A Fault → Type 0) → Type 0
One {A} Right = (r s : Result A Fault) → Right r → Right s → r ≡ s

-- two answers lend the same list, or are the same fault
abbrev pub SameLent : Result (Bor AccessList) Fault → Result (Bor AccessList) Fault → Type 0
SameLent (Ok lent) (Ok other) = shown lent.now.text ≡ shown other.now.text
SameLent (Err f) (Err g) = f ≡ g
SameLent _ _ = ⊥

-- A history determines the answer of each call, refusals with their number, text and place.
pub record Determined (past : History) : Type 0 where
  pub start : (program : List ℕ) → One (StartAnswer past program)
  pub spawn : (parent : ℕ) (program : List ℕ) → One (SpawnAnswer past parent program)
  pub spawn_in_role : (parent : ℕ) (role program : List ℕ) → One (SpawnInRoleAnswer past parent role program)
  pub spawn_itself : (parent : ℕ) (program : List ℕ) → One (SpawnItselfAnswer past parent program)
  pub end : (process : ℕ) → One (EndAnswer past process)
  pub post : (path own : List ℕ) (second : Option (List ℕ)) → One (PostAnswer past path own second)
  pub unpost : (path : List ℕ) → One (UnpostAnswer past path)
  pub force : (path : List ℕ) (r s : Result (Bor AccessList) Fault) → ForceAnswer past path r → ForceAnswer past path s → SameLent r s

-- Names that spawns make have a name's form: they are refused for being too long alone. A program's own name is never too long.
pub record MadeNames (parent role program : List ℕ) (f : Fault) : Type 0 where
  pub plain : LawfulName parent → LawfulPartial program → NameFault (spawned parent program) f → f.kind ≡ NameTooLong
  pub in_role : LawfulName parent → LawfulPartial role → LawfulPartial program → NameFault (spawned_in_role parent role program) f → f.kind ≡ NameTooLong
  pub itself : LawfulPartial program → NameFault program f → ⊥

-- the number is the one that the call gives, and the process under it has this name
pub record Entered (past : History) (call : Call) (name : List ℕ) (number : ℕ) : Type 0 where
  pub number_is_next : number_given call past ≡ Some number
  pub named : name_of (call ∷ past) number ≡ Some name

-- the parent runs, and the name under the number is made from its name
abbrev pub EnteredBy : History → ℕ → Call → (List ℕ → List ℕ) → ℕ → Type 0
EnteredBy past parent call made number = (name : List ℕ) × ((name_of past parent ≡ Some name) × Entered past call (made name) number)

-- A number that is answered is the next one, and the process that was asked for has it.
pub record NumbersEntered (past : History) (n : ProcessNumber) : Type 0 where
  pub start : (program : List ℕ) → StartAnswer past program (Ok n) → Entered past (Start program) program n.0
  pub spawn : (parent : ℕ) (program : List ℕ) → SpawnAnswer past parent program (Ok n) → EnteredBy past parent (Spawn parent program) (λ name. spawned name program) n.0
  pub spawn_in_role : (parent : ℕ) (role program : List ℕ) → SpawnInRoleAnswer past parent role program (Ok n) → EnteredBy past parent (SpawnInRole parent role program) (λ name. spawned_in_role name role program) n.0
  pub spawn_itself : (parent : ℕ) (program : List ℕ) → SpawnItselfAnswer past parent program (Ok n) → EnteredBy past parent (SpawnItself parent program) (λ name. program) n.0

-- the key is one of these
abbrev pub Among : {K : Type 0} → K → List K → Type 0
Among k [] = ⊥
Among k (key ∷ keys) = (k ≡ key) ⊎ Among k keys

-- no key stands twice
abbrev pub Distinct : {K : Type 0} → List K → Type 0
Distinct [] = Unit {0}
Distinct (key ∷ keys) = (Among key keys → ⊥) × Distinct keys

-- a table has something under so many keys: they can be listed, each once
pub record HasKeys {K V : Type 0} (table : K → Option V) (count : ℕ) : Type 0 where
  pub keys : List K
  pub distinct : Distinct keys
  pub all : (k : K) → (is_some (table k) ≡ true) ↔ Among k keys
  pub counted : length keys ≡ count

-- Of the rows that a station has taken, one is each process's that runs and each posted path's.
pub record RowsCounted (past : History) : Type 0 where
  pub running : HasKeys (name_of past) (running past)
  pub places : HasKeys (posted past) (places past)
