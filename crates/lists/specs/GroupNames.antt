-- Group names that are given alone: which are lawful, and which fault any other text has.
use Rattle.std.specs.Prelude.{◌≡◌, ℕ, ◌<◌, ◌≤◌, true, List, length}
use Rattle.std.specs.List.{AllByRecursion}
use Rattle.faults.specs.declared.fault.Fault.{Fault}
use Rattle.faults.specs.declared.kind.Kind.TheVariants.{GroupNameUnlawful}
use Rattle.names.specs.Language.{Stuck}
use Rattle.names.specs.Faults.{fault}
use Rattle.lists.specs.Bytes.{group_byte}

-- some bytes of group names, their number aside
pub record GroupBytes (text : List ℕ) : Type 0 where
  pub some : 0 < length text
  pub bytes : AllByRecursion (λ b. group_byte b ≡ true) text

-- bytes over 32 come first, at the limit; then the first byte that cannot go on
pub data GroupNameFault (text : List ℕ) : Fault → Type 0 where
  long_name : 32 < length text → GroupNameFault text (fault GroupNameUnlawful 32)
  stuck_name : {place : ℕ} → length text ≤ 32 → Stuck GroupBytes text place → GroupNameFault text (fault GroupNameUnlawful place)
