-- Which words are the same by the lax rules.
use Rattle.std.specs.Prelude.{◌≡◌, ℕ, List, length, take, map}
use Rattle.std.specs.Char.{to_ascii_lowercase}
use Rattle.match_cases.specs.declared.lax.Lax.{Lax}
use Rattle.match_cases.specs.declared.lax.Lax.TheVariants.{AnyCase, Beginning}

-- a word of a list and a word of a name are the same
abbrev pub SameByLax : Lax → List ℕ → List ℕ → Type 0
SameByLax AnyCase w v = map to_ascii_lowercase w ≡ map to_ascii_lowercase v
SameByLax Beginning w v = w ≡ take (length w) v
