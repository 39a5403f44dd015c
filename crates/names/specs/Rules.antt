-- Rules by which a word of a list and a word of a name are the same.
use Rattle.std.specs.Prelude.{◌≡◌, ℕ, List}

-- words are the same if their bytes are
abbrev pub exact : List ℕ → List ℕ → Type 0
exact w v = w ≡ v
