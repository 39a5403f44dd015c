-- What adding a group to a table book leaves, what removing one leaves, and which fault is told.
use Rattle.std.specs.Prelude.{◌≡◌, ℕ, ◌<◌, ◌≤◌, true, List, length, is_some, Some, None, ◌≢◌}
use Rattle.faults.specs.declared.fault.Fault.{Fault}
use Rattle.faults.specs.declared.kind.Kind.TheVariants.{TextTooLong, NoRowFree}
use Rattle.names.specs.Faults.{fault}
use Rattle.lists.specs.Bytes.{IsGroupName}
use Rattle.lists.specs.GroupNames.{GroupNameFault}
use Rattle.books.specs.Tables.{Table, text_of}

-- the name has the text now, and every other name what it had
pub record Added (old new : Table) (name text : List ℕ) : Type 0 where
  pub own : text_of new name ≡ Some text
  pub others : (k : List ℕ) → (k ≢ name) → text_of new k ≡ text_of old k

-- a name that the table had is gone, and every other name has what it had
pub record Removed (old new : Table) (name : List ℕ) : Type 0 where
  pub had : is_some (text_of old name) ≡ true
  pub own : text_of new name ≡ None
  pub others : (k : List ℕ) → (k ≢ name) → text_of new k ≡ text_of old k

-- an unlawful name, then a text over 512 bytes, then a new name where all 64 rows are in use
pub data AddFault (old : Table) (name text : List ℕ) : Fault → Type 0 where
  bad_name : {f : Fault} → GroupNameFault name f → AddFault old name text f
  long_text : IsGroupName name → 512 < length text → AddFault old name text (fault TextTooLong 512)
  no_row : IsGroupName name → length text ≤ 512 → text_of old name ≡ None → length old ≡ 64 → AddFault old name text (fault NoRowFree 0)
