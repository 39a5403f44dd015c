-- Which groups have been judged.
use Rattle.std.specs.Prelude.{◌≡◌, ℕ, ◌+◌, ◌<◌, List, [], length, Some, slice_index_or}
use Rattle.runs.specs.declared.relation.Runs.{Runs}
use Rattle.names.specs.Names.{Part}
use Rattle.lists.specs.Trees.{Tree}
use Rattle.lists.specs.Texts.{Reads}
use Rattle.name_parts.specs.Texts.{text_of}
use Rattle.openings.specs.Opened.{texts_of}
use Rattle.matching.specs.declared.judge.Judge.{Judge}
use Rattle.matching.specs.Judging.{ForParts, table_of, judged_runs, Means, Derived}

-- Below, R is the type of a rule by which words are compared, and `same` says which words are the same by it.

-- the judge has judged a group
abbrev pub IsJudged : {R : Type 0} → Judge R → ℕ → Type 0
IsJudged judge k = (runs : Runs) × (judged_runs judge k ≡ Some runs)

-- the judge keeps its name, its list and its rule
pub record Stays {R : Type 0} (before after : Judge R) : Type 0 where
  pub name : text_of after.parts ≡ text_of before.parts
  pub list : after.opened.now ≡ before.opened.now
  pub rule : after.rule.now ≡ before.rule.now

module _ {R : Type 0} (same : R → List ℕ → List ℕ → Type 0) where
  -- what the judge holds of a group is what it derives, by the tree that its text reads as
  abbrev pub Held : Judge R → List Part → ℕ → Type 0
  Held judge ps k = (runs : Runs) → judged_runs judge k ≡ Some runs → (tree : Tree) → Reads (slice_index_or (texts_of (table_of judge)) k []) tree → Means ps (Derived same judge tree) (length ps + 1) runs

  -- so it is for every group
  abbrev pub AllHeld : Judge R → List Part → Type 0
  AllHeld judge ps = (k : ℕ) → k < length (table_of judge) → Held judge ps k

  -- the judge goes on: what it had judged stays judged, and it holds what it judges
  pub record Goes (before after : Judge R) : Type 0 where
    pub stays : Stays before after
    pub kept : (k : ℕ) → IsJudged before k → IsJudged after k
    pub held : ForParts before (λ ps. AllHeld before ps → AllHeld after ps)
