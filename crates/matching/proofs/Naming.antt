-- What the step of a reference to a group means.
use Rattle.std.proofs.Common.{ℕ, ◌+◌, List, length, arith}
use Rattle.runs.specs.declared.relation.Runs.{Runs}
use Rattle.names.specs.Names.{Part}
use Rattle.lists.specs.Trees.{named}
use Rattle.derivations.specs.Derives.{ItemDerives, GroupOf}
use Rattle.matching.specs.declared.judge.Judge.{Judge}
use Rattle.matching.specs.declared.step.Step.TheVariants.{Runs as Each}
use Rattle.matching.specs.Judging.{table_of, Means, StepMeans, Derived, GroupReady}
use Rattle.matching.proofs.Spanning.{span_named}

-- the runs of the tree that a group stands for
pub group_means : {R : Type 0} (same : R → List ℕ → List ℕ → Type 0) (judge : Judge R) (ps : List Part) (g : List ℕ) (ready : GroupReady same judge ps g) (runs : Runs) → Means ps (Derived same judge ready.tree) (length ps + 1) runs → StepMeans ps (ItemDerives (same judge.rule.now) (GroupOf (table_of judge)) (named g)) (Each runs)
group_means same judge ps g ready runs means = record {
  counted = means.counted;
  ends = λ i j. (
    λ e. (span_named ready.stands ready.one).1 ((means.ends i j).0 e).1,
    λ s. (means.ends i j).1 (omega (arith, s.forward, s.within), (span_named ready.stands ready.one).0 s),
  );
}
