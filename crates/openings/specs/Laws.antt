-- Laws of opening.
use Rattle.std.specs.Prelude.{◌≡◌, ℕ, ◌≤◌, List, length}
use Rattle.faults.specs.declared.fault.Fault.{Fault}
use Rattle.books.specs.Tables.{Table}
use Rattle.openings.specs.Opening.{Name, Meaning, Numbered, Known, Alike}
use Rattle.openings.specs.Circles.{Names, Leads, ListLeads}
use Rattle.openings.specs.Opened.{names_of, Opens, OpenFault}

-- an opening has one answer at most: groups in one order, or one fault, and not both
pub record OneAnswer (M : Meaning) (list : List ℕ) : Type 0 where
  pub groups : (s t : Table) → Opens M list s → Opens M list t → s ≡ t
  pub fault : (f g : Fault) → OpenFault M list f → OpenFault M list g → f ≡ g
  pub apart : (t : Table) (f : Fault) → Opens M list t → OpenFault M list f → ⊥

-- the groups are exactly those that the list leads to, each once, at most 32, and none leads to itself in one step or more
pub record Complete (M : Meaning) (list : List ℕ) (groups : Table) : Type 0 where
  pub every : (g : Name) → ListLeads M list g → Known (names_of groups) g
  pub only : (g : Name) → Known (names_of groups) g → ListLeads M list g
  pub once : (g : Name) (j k : ℕ) → Numbered (names_of groups) g j → Numbered (names_of groups) g k → j ≡ k
  pub few : length groups ≤ 32
  pub no_circle : (g h : Name) → Known (names_of groups) g → Names M g h → Leads M h g → ⊥

-- opening depends on a book only through the names that it looks up: one that agrees on them gives the same answer
pub record SameAnswer (M M' : Meaning) (list : List ℕ) : Type 0 where
  pub groups : (t : Table) → Opens M list t → Opens M' list t
  pub faults : (f : Fault) → OpenFault M list f → OpenFault M' list f

abbrev pub DependsOnChecked : List ℕ → Type 0
DependsOnChecked list = (M M' : Meaning) → Alike M M' list → SameAnswer M M' list
