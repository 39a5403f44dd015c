-- Runs of words joined by dots, by the places of the words and of the dots.
use Rattle.std.specs.Prelude.{ℕ, ◌<◌}
use Rattle.runs.specs.Relations.{Identity, Advanced, Composed, Reach}

module _ (count words dots : ℕ) where
  -- one word
  abbrev pub OneWord : ℕ → ℕ → Type 0
  OneWord = Advanced (Identity count) words

  -- a dot and a word
  abbrev pub DotWord : ℕ → ℕ → Type 0
  DotWord = Advanced (Advanced (Identity count) dots) words

  -- any number of times a dot and a word
  abbrev pub DotWords : ℕ → ℕ → Type 0
  DotWords i j = (i < count) × Reach DotWord i j

  -- a word, and any number of times a dot and a word
  abbrev pub DottedWords : ℕ → ℕ → Type 0
  DottedWords = Composed OneWord DotWords
