-- Where runs end.
use Rattle.std.specs.Prelude.{◌≡◌, ℕ, ◌<◌, ◌↔◌}
use Rattle.runs.specs.declared.relation.Runs.{Runs}
use Rattle.positions.specs.Rows.{At}

-- a run from one of the first places can end at a place
abbrev pub Ends : Runs → ℕ → ℕ → Type 0
Ends r i j = (i < r.count) × At r.rows i j

-- from each of the first places a run ends where it starts
abbrev pub Reflexive : Runs → Type 0
Reflexive r = (i : ℕ) → i < r.count → Ends r i i

-- a run after a run is a run
abbrev pub Closed : Runs → Type 0
Closed r = (i k j : ℕ) → Ends r i k → Ends r k j → Ends r i j

-- a relation keeps its count, and its runs become those of another relation
pub record Becomes (old new : Runs) (Run : ℕ → ℕ → Type 0) : Type 0 where
  pub kept : new.count ≡ old.count
  pub ends : (i j : ℕ) → Ends new i j ↔ Run i j
