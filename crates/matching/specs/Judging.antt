-- What a judge answers: from which places of a name to which a text derives the parts between.
use Rattle.std.specs.Prelude.{◌≡◌, ℕ, ◌+◌, ◌<◌, ◌↔◌, List, [], ◌∷◌, ◌++◌, length, drop, Some, None, Option, slice_index_or}
use Rattle.std.specs.List.{AllByRecursion}
use Rattle.runs.specs.declared.relation.Runs.{Runs}
use Rattle.runs.specs.Runs.{Ends}
use Rattle.names.specs.Names.{Part, IsName}
use Rattle.lists.specs.Trees.{Sign, close_bracket, Tree}
use Rattle.lists.specs.Texts.{Reads, tree_signs}
use Rattle.lists.specs.Placed.{Placed, signs_of}
use Rattle.books.specs.Tables.{Table}
use Rattle.name_parts.specs.Slices.{Spans}
use Rattle.name_parts.specs.Texts.{text_of}
use Rattle.openings.specs.Opening.{Numbered, Known}
use Rattle.openings.specs.Opened.{names_of}
use Rattle.openings.specs.Answers.{groups_of}
use Rattle.derivations.specs.Derives.{TreeDerives, GroupOf}
use Rattle.derivations.specs.References.{tree_groups}
use Rattle.matching.specs.declared.step.Step.{Step}
use Rattle.matching.specs.declared.judge.Judge.{Judge}
use Rattle.matching.specs.Steps.{StepEnds, StepCounted}

-- the runs from the first places are those between which the parts of the name are such a run
pub record Means (ps : List Part) (Run : List Part → Type 0) (starts : ℕ) (runs : Runs) : Type 0 where
  pub counted : runs.count ≡ starts
  pub ends : (i j : ℕ) → Ends runs i j ↔ ((i < starts) × Spans ps Run i j)

-- a step goes from each place to those up to which the parts of the name are such a run
pub record StepMeans (ps : List Part) (Run : List Part → Type 0) (step : Step) : Type 0 where
  pub counted : StepCounted step (length ps + 1)
  pub ends : (i j : ℕ) → StepEnds step i j ↔ Spans ps Run i j

-- Below, R is the type of a rule by which words are compared, and `same` says which words are the same by it.

-- what holds of the row of parts that the name has
abbrev pub ForParts : {R : Type 0} → Judge R → (List Part → Type 0) → Type 0
ForParts judge Fact = (ps : List Part) → IsName (text_of judge.parts) ps → Fact ps

-- the groups of the opened list, with their texts
abbrev pub table_of : {R : Type 0} → Judge R → Table
table_of judge = groups_of judge.opened.now

-- the runs that the judge holds of a group, if it has judged it
abbrev pub judged_runs : {R : Type 0} → Judge R → ℕ → Option Runs
judged_runs judge k = slice_index_or judge.groups k None

-- what follows a list: nothing, or the bracket that closes it
abbrev pub Closes : List Sign → Type 0
Closes [] = Unit {0}
Closes (s ∷ ss) = s ≡ close_bracket

module _ {R : Type 0} (same : R → List ℕ → List ℕ → Type 0) where
  -- what a tree derives by the groups of the opened list, where words are compared by the judge's rule
  abbrev pub Derived : Judge R → Tree → List Part → Type 0
  Derived judge tree = TreeDerives (same judge.rule.now) (GroupOf (table_of judge)) tree

  -- a group has a number, stands for one tree, and the judge holds what that tree derives
  pub record GroupReady (judge : Judge R) (ps : List Part) (g : List ℕ) : Type 0 where
    pub numbered : Known (names_of (table_of judge)) g
    pub tree : Tree
    pub stands : GroupOf (table_of judge) g tree
    pub one : (t : Tree) → GroupOf (table_of judge) g t → t ≡ tree
    pub held : (k : ℕ) → Numbered (names_of (table_of judge)) g k → (runs : Runs) × (judged_runs judge k ≡ Some runs) × Means ps (Derived judge tree) (length ps + 1) runs

  -- every group that the tree names is ready
  abbrev pub TreeReady : Judge R → List Part → Tree → Type 0
  TreeReady judge ps tree = AllByRecursion (GroupReady judge ps) (tree_groups tree)

  -- the runs are those of the tree of a text, where every group that the tree names is ready
  abbrev pub JudgesText : Judge R → List ℕ → ℕ → Runs → Type 0
  JudgesText judge text starts runs = ForParts judge (λ ps. (tree : Tree) → Reads text tree → TreeReady judge ps tree → Means ps (Derived judge tree) starts runs)

  -- the runs are those of the tree, and the tokens that are left are those after the bracket that closes the list
  pub record Judged (judge : Judge R) (ps : List Part) (tree : Tree) (starts : ℕ) (runs : Runs) (tail : List Sign) (text : List ℕ) (at : ℕ) : Type 0 where
    pub means : Means ps (Derived judge tree) starts runs
    pub rest : List (ℕ × Sign)
    pub placed : Placed text at rest
    pub signs : signs_of rest ≡ drop 1 tail

  -- the tokens from a place on are those of a tree and of what follows it, and the tree is judged from one place to another
  abbrev pub Judges : Judge R → List ℕ → ℕ → ℕ → ℕ → Runs → Type 0
  Judges judge text at at' starts runs =
      ForParts judge (λ ps. (tree : Tree) → TreeReady judge ps tree → (tail : List Sign) → Closes tail → (qs : List (ℕ × Sign)) → Placed text at qs → signs_of qs ≡ tree_signs tree ++ tail → Judged judge ps tree starts runs tail text at')
