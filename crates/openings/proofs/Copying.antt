-- A text that a book copies to a buffer.
use Rattle.std.proofs.Common.{◌≡◌, ℕ, ◌<◌, List, length, take, Some, Ok, Err, Option, arith}
use Rattle.std.proofs.lemmas.Grind.{common_steps}
use Rattle.books.specs.declared.not_copied.NotCopied.{NotCopied}
use Rattle.books.specs.Copies.{copied}

-- a text that is not copied is too long for the buffer
pub copied_long : (text buffer : List ℕ) {o : Option (List ℕ)} → o ≡ Some text → {e : NotCopied} → Err e ≡ (copied o buffer).0 → length buffer < length text
copied_long text buffer has {e} answer = grind (arith, common_steps)

-- one that is copied is at the front of the buffer
pub copied_front : (text buffer : List ℕ) {o : Option (List ℕ)} → o ≡ Some text → {len : ℕ} → Ok len ≡ (copied o buffer).0 → take len (copied o buffer).1 ≡ text
copied_front text buffer has {len} answer = grind (arith, common_steps)
