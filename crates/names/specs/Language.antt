-- A language is a set of texts. Where does a text first leave it?
use Rattle.std.specs.Prelude.{◌≡◌, ℕ, ◌+◌, ◌<◌, ◌≤◌, List, ◌++◌, length, take}

-- some text of the language begins so
abbrev pub Begins : (List ℕ → Type 0) → List ℕ → Type 0
Begins L front = (rest : List ℕ) × L (front ++ rest)

-- The place of the first byte that cannot go on: the bytes before it begin some text of the language,
-- and with the byte at the place none does. At the end of the text, the place is the end,
-- and the text is none of the language.
pub record Stuck (L : List ℕ → Type 0) (text : List ℕ) (place : ℕ) : Type 0 where
  pub within : place ≤ length text
  pub before : Begins L (take place text)
  pub beyond : place < length text → Begins L (take (place + 1) text) → ⊥
  pub short : place ≡ length text → L text → ⊥
