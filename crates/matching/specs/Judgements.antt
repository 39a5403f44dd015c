-- What a list, through a book, says of a name: a verdict, or the fault that is due.
use Rattle.std.specs.Prelude.{ℕ, List, true, Decides, Ok, Err, Result}
use Rattle.faults.specs.declared.fault.Fault.{Fault}
use Rattle.faults.specs.Answers.{Refused}
use Rattle.books.specs.Tables.{Table, text_of}
use Rattle.openings.specs.Opened.{Opens, OpenFault}
use Rattle.derivations.specs.Derives.{ListDerives}
use Rattle.matching.specs.declared.verdict.Verdict.{Verdict}
use Rattle.matching.specs.Verdicts.{is_grant}

module _ (Same : List ℕ → List ℕ → Type 0) (book : Table) (list name : List ℕ) where
  -- the list opens through the book and has no fault, and the verdict is grant exactly if the list derives the name
  pub record JudgedAs (verdict : Verdict) : Type 0 where
    pub groups : Table
    pub opens : Opens (text_of book) list groups
    pub faultless : (f : Fault) → OpenFault (text_of book) list f → ⊥
    pub derived : Decides (is_grant verdict) (ListDerives Same book list name)

  -- judged, or refused by the one fault of opening that is due
  abbrev pub Judged : Result Verdict Fault → Type 0
  Judged (Ok verdict) = JudgedAs verdict
  Judged (Err f) = Refused ((groups : Table) × Opens (text_of book) list groups) (OpenFault (text_of book) list) f
