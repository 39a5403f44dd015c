-- What is known of a name by place. A text is a name by one row of parts at most, so each of these has one answer.
use Rattle.std.specs.Prelude.{◌≡◌, ℕ, ◌+◌, ◌↔◌, List, length}
use Rattle.names.specs.Names.{Part, word, Partial, IsName}
use Rattle.positions.specs.Places.{Has}
use Rattle.runs.specs.declared.relation.Runs.{Runs}
use Rattle.runs.specs.Runs.{Ends}
use Rattle.name_parts.specs.Slices.{Spans, PartAt}

-- the set of the places that have a part
abbrev pub PlacesOf : List ℕ → Part → ℕ → Type 0
PlacesOf text p digits = (ps : List Part) → IsName text ps → (i : ℕ) → Has digits i ↔ PartAt ps p i

-- a place that has a word which is the same as this one
abbrev pub SameWordAt : (List ℕ → List ℕ → Type 0) → List Part → List ℕ → ℕ → Type 0
SameWordAt Same ps w i = (v : List ℕ) × PartAt ps (word v) i × Same w v

-- the set of those of some places that have a word which is the same as this one
abbrev pub WordPlaces : (List ℕ → List ℕ → Type 0) → List ℕ → List ℕ → ℕ → ℕ → Type 0
WordPlaces Same text w among digits = (ps : List Part) → IsName text ps → (i : ℕ) → Has digits i ↔ (Has among i × SameWordAt Same ps w i)

-- the runs of a row from place to place that are partial names
pub record PartialRuns (ps : List Part) (r : Runs) : Type 0 where
  pub counted : r.count ≡ length ps + 1
  pub ends : (i j : ℕ) → Ends r i j ↔ Spans ps Partial i j

-- the runs of a name from place to place that are partial names
abbrev pub PartialNames : List ℕ → Runs → Type 0
PartialNames text r = (ps : List Part) → IsName text ps → PartialRuns ps r
