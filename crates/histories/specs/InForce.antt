-- When a list is in force for a path, told by the longest posted path that is the path or lies above it.
use Rattle.std.specs.Prelude.{◌≡◌, ◌⊎◌, ℕ, ◌≤◌, true, List, length, is_some, Some}
use Rattle.names.specs.Paths.{LiesAbove}
use Rattle.histories.specs.Places.{Lists, list_below, Postings}

-- up is the path or lies above it by whole words
abbrev pub Covers : List ℕ → List ℕ → Type 0
Covers up path = (up ≡ path) ⊎ LiesAbove up path

-- the longest posted path that is the path or lies above it, with its lists
pub record Nearest (postings : Postings) (path up : List ℕ) (lists : Lists) : Type 0 where
  pub posted : postings up ≡ Some lists
  pub covers : Covers up path
  pub longest : (other : List ℕ) → Covers other path → is_some (postings other) ≡ true → length other ≤ length up

-- the own list for the path itself; for what lies below, the second list, or the own where the second is absent
pub data InForce (postings : Postings) (path : List ℕ) : List ℕ → Type 0 where
  own_list : {lists : Lists} → Nearest postings path path lists → InForce postings path lists.own
  from_above : {up : List ℕ} {lists : Lists} → LiesAbove up path → Nearest postings path up lists → InForce postings path (list_below lists)
