-- What joins the words of a name, a partial name and a path.
use Rattle.std.specs.Prelude.{◌≡◌, ℕ, ◌<◌, Bool, true, false, List, length, take, slice_index}
use Rattle.std.specs.Fn.{Shared}
use Rattle.faults.specs.declared.fault.Fault.{Fault}
use Rattle.names.specs.Language.{Stuck}
use Rattle.names.specs.Words.{word_byte, Joined, count_of}
use Rattle.names.specs.Faults.{fault, kind_at}

-- a test answers whether a byte is a joint, and no joint stands in a word
pub record TellsJoints {F : Type 0} (g : Shared F (ℕ × Unit {0}) Bool) (test : F) (joint : ℕ → Bool) : Type 0 where
  pub answers : (b : ℕ) (r : Bool) → g.post test (b, tt) r → r ≡ joint b
  pub apart : (b : ℕ) → joint b ≡ true → word_byte b ≡ false

-- the first byte at which the text is no longer words joined so, with the kind of fault there
pub record Unjoined (joint : ℕ → Bool) (text : List ℕ) (f : Fault) : Type 0 where
  pub place : ℕ
  pub stuck : Stuck (Joined joint) text place
  pub told : f ≡ fault (kind_at text place) place

-- the place of the joint that has n others before it
pub record JointAt (joint : ℕ → Bool) (text : List ℕ) (n place : ℕ) : Type 0 where
  pub within : place < length text
  pub is_joint : joint (slice_index text place) ≡ true
  pub before : count_of joint (take place text) ≡ n
