-- What copying a text to a buffer answers, and what it leaves there.
use Rattle.std.specs.Prelude.{ℕ, cond, List, ◌++◌, length, drop, Some, None, Ok, Err, Option, Result, nat_le}
use Rattle.books.specs.declared.not_copied.NotCopied.{NotCopied}
use Rattle.books.specs.declared.not_copied.NotCopied.TheVariants.{NameLacking, BufferTooShort}

-- the text goes to the front, and the rest stays; without a text or without room nothing is written
abbrev pub copied : Option (List ℕ) → List ℕ → Result ℕ NotCopied × List ℕ
copied None buffer = (Err NameLacking, buffer)
copied (Some t) buffer = cond (nat_le (length t) (length buffer)) (Ok (length t), t ++ drop (length t) buffer) (Err BufferTooShort, buffer)
