-- Runs of the parts of a name: from one place up to another.
use Rattle.std.specs.Prelude.{◌≡◌, ℕ, ◌<◌, ◌≤◌, List, length, slice_index_or, slice_range}
use Rattle.names.specs.Names.{Part}

-- the parts from place i up to place j are such a run
pub record Spans (ps : List Part) (Run : List Part → Type 0) (i j : ℕ) : Type 0 where
  pub forward : i ≤ j
  pub within : j ≤ length ps
  pub run : Run (slice_range ps i j)

-- the part at place i
pub record PartAt (ps : List Part) (p : Part) (i : ℕ) : Type 0 where
  pub inside : i < length ps
  pub is : slice_index_or ps i p ≡ p
