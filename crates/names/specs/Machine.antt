-- A machine reads a text byte by byte, and stops for good at the first byte that it has no step for.
use Rattle.std.specs.Prelude.{ℕ, List, [], ◌∷◌, Some, None, Option}

abbrev pub next : {S : Type 0} → (S → ℕ → Option S) → Option S → ℕ → Option S
next step None b = None
next step (Some s) b = step s b

abbrev pub run : {S : Type 0} → (S → ℕ → Option S) → Option S → List ℕ → Option S
run step o [] = o
run step o (b ∷ bs) = run step (next step o b) bs
