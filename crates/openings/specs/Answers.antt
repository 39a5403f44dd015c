-- What opening answers.
use Rattle.std.specs.Prelude.{◌≡◌, ℕ, List, Ok, Err, Result}
use Rattle.faults.specs.declared.fault.Fault.{Fault}
use Rattle.faults.specs.Answers.{Refused}
use Rattle.books.specs.Tables.{Table}
use Rattle.openings.specs.declared.opened.Opened.{Opened}
use Rattle.openings.specs.Opening.{Meaning}
use Rattle.openings.specs.Opened.{Opens, OpenFault}
use Rattle.openings.specs.Laws.{Complete}
use Rattle.openings.specs.Pairs.{pairs}
use Rattle.openings.specs.KnownNames.{known}
use Rattle.openings.specs.Views.{text_in, texts_in}

-- the list that was opened, and the groups that it reached with their texts, in the order of meeting
abbrev pub list_of : Opened → List ℕ
list_of o = text_in o.list

abbrev pub groups_of : Opened → Table
groups_of o = pairs (known o.names) (texts_in o.texts)

-- the list has been opened: it is held with the groups that it reached, which are the only ones, and no fault is due
pub record OpenedAs (M : Meaning) (list : List ℕ) (o : Opened) : Type 0 where
  pub same : list_of o ≡ list
  pub opens : Opens M list (groups_of o)
  pub only : (groups : Table) → Opens M list groups → groups ≡ groups_of o
  pub complete : Complete M list (groups_of o)
  pub faultless : (f : Fault) → OpenFault M list f → ⊥

-- opened, or refused by the one fault that is due
abbrev pub Answered : Meaning → List ℕ → Result Opened Fault → Type 0
Answered M list (Ok o) = OpenedAs M list o
Answered M list (Err f) = Refused ((groups : Table) × Opens M list groups) (OpenFault M list) f
