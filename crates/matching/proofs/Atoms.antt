-- What the step of an atom means.
use Rattle.std.proofs.Common.{◌≡◌, ℕ, ◌+◌, ◌<◌, ◌≤◌, ◌↔◌, List, length, arith}
use mathlib.Core.Logic.Iff
use Rattle.positions.specs.declared.Positions.{Positions}
use Rattle.positions.specs.Places.{Has}
use Rattle.runs.specs.declared.relation.Runs.{Runs}
use Rattle.runs.specs.Runs.{Ends}
use Rattle.names.specs.Names.{Part, Partial}
use Rattle.lists.specs.Trees
use Rattle.lists.specs.Trees.{any}
use Rattle.name_parts.specs.Slices.{Spans, PartAt}
use Rattle.name_parts.specs.Tables.{SameWordAt}
use Rattle.derivations.specs.Derives.{AtomDerives}
use Rattle.matching.specs.declared.step.Step.TheVariants.{Part as Place, Runs as Each}
use Rattle.matching.specs.Judging.{StepMeans}
use Rattle.matching.proofs.Spanning.{span_atom_word, span_atom_any}

-- one part at the places of a set
pub part_means : (ps : List Part) (p : Part) {Run : List Part → Type 0} (places : Positions) → length ps ≤ 63 → ((i : ℕ) → Has places.digits i ↔ PartAt ps p i) → ((i j : ℕ) → Spans ps Run i j ↔ ((j ≡ i + 1) × PartAt ps p i)) → StepMeans ps Run (Place places)
part_means ps p places few has spans = record {
  counted = tt;
  ends = λ i j. (
    λ e. (spans i j).1 (e.0, (has i).0 e.2),
    λ s. let (next, part) = (spans i j).0 s in (next, omega (arith, part.inside), (has i).1 part),
  );
}

module _ {Same : List ℕ → List ℕ → Type 0} where
  -- a word, at the places of the words that are the same
  pub word_means : (ps : List Part) (w : List ℕ) (places among : Positions) → length ps ≤ 63 → ((i : ℕ) → Has among.digits i ↔ (i < length ps + 1)) → ((i : ℕ) → Has places.digits i ↔ (Has among.digits i × SameWordAt Same ps w i)) → StepMeans ps (AtomDerives Same (Trees.word w)) (Place places)
  word_means ps w places among few everywhere has = record {
    counted = tt;
    ends = λ i j. (
      λ e. span_atom_word.1 (e.0, ((has i).0 e.2).1),
      λ s. let (next, found) = span_atom_word.0 s in (next, omega (arith, found.1.inside), (has i).1 ((everywhere i).1 (omega (arith, found.1.inside)), found)),
    );
  }

  -- `!`, by the runs of partial names
  pub any_means : (ps : List Part) (runs : Runs) → runs.count ≡ length ps + 1 → ((i j : ℕ) → Ends runs i j ↔ Spans ps Partial i j) → StepMeans ps (AtomDerives Same any) (Each runs)
  any_means ps runs counted ends = record { counted = counted; ends = λ i j. Iff.trans (ends i j) (Iff.symm span_atom_any) }
