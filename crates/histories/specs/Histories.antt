-- What has happened so far: the calls that were not refused, with what was given to them.
use Rattle.std.specs.Prelude.{ℕ, List, Option}

-- a call that was not refused
pub data Call : Type 0 where
  Start : (program : List ℕ) → Call
  Spawn : (parent : ℕ) (program : List ℕ) → Call
  SpawnInRole : (parent : ℕ) (role program : List ℕ) → Call
  SpawnItself : (parent : ℕ) (program : List ℕ) → Call
  End : (process : ℕ) → Call
  Post : (path own : List ℕ) (second : Option (List ℕ)) → Call
  Unpost : (path : List ℕ) → Call

-- the newest call first
abbrev pub History : Type 0
History = List Call
