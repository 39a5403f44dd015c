-- Which fault a text has that is no lawful name, partial name or path. Bytes over the whole input's limit come
-- first, at the limit; then the first byte that cannot go on; parts over 63 last, at the 64th.
use Rattle.std.specs.Prelude.{◌≡◌, ℕ, ◌<◌, ◌≤◌, Bool, true, cond, not, ◌&&◌, ◌||◌, List, [], ◌∷◌, length, take, drop, ◌==◌}
use Rattle.faults.specs.declared.fault.Fault.{Fault}
use Rattle.faults.specs.declared.kind.Kind.{Kind}
use Rattle.faults.specs.declared.kind.Kind.TheVariants.{ByteNotAllowed, WordMissing, WordTooLong, NameTooLong, PathUnlawful}
use Rattle.names.specs.Language.{Stuck}
use Rattle.names.specs.Words.{word_byte}
use Rattle.names.specs.Names.{Part, spell, Partial, Steps, Spelled}
use Rattle.names.specs.Paths.{IsPath}

-- a fault in a call's first text
abbrev pub fault : Kind → ℕ → Fault
fault k p = record { kind = k; text = 0; place = p }

abbrev pub mark_byte : ℕ → Bool
mark_byte b = b == 46 || b == 64 || b == 43

-- whether a word is due after these bytes: there are none, or the last is no word's
abbrev pub due_after : Bool → List ℕ → Bool
due_after due [] = due
due_after due (b ∷ bs) = due_after (not (word_byte b)) bs

abbrev pub word_due : List ℕ → Bool
word_due front = due_after true front

-- the kind of fault at the first byte that cannot go on: what stands before it, and what from it on
abbrev pub kind_of : List ℕ → List ℕ → Kind
kind_of front [] = WordMissing
kind_of front (b ∷ bs) = cond (word_byte b) WordTooLong (cond (mark_byte b && word_due front) WordMissing ByteNotAllowed)

abbrev pub kind_at : List ℕ → ℕ → Kind
kind_at text place = kind_of (take place text) (drop place text)

pub data NameFault (text : List ℕ) : Fault → Type 0 where
  long : 255 < length text → NameFault text (fault NameTooLong 255)
  stuck : {place : ℕ} → length text ≤ 255 → Stuck (Spelled Steps) text place → NameFault text (fault (kind_at text place) place)
  parts : {ps : List Part} → length text ≤ 255 → Steps ps → spell ps ≡ text → 63 < length ps → NameFault text (fault NameTooLong (length (spell (take 63 ps))))

pub data PartialFault (text : List ℕ) : Fault → Type 0 where
  long_partial : 64 < length text → PartialFault text (fault NameTooLong 64)
  stuck_partial : {place : ℕ} → length text ≤ 64 → Stuck (Spelled Partial) text place → PartialFault text (fault (kind_at text place) place)

pub data PathFault (text : List ℕ) : Fault → Type 0 where
  long_path : 64 < length text → PathFault text (fault PathUnlawful 64)
  stuck_path : {place : ℕ} → length text ≤ 64 → Stuck IsPath text place → PathFault text (fault PathUnlawful place)
