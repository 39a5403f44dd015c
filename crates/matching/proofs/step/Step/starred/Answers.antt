use Rattle.std.proofs.Common.{◌≡◌, ℕ, ◌∙◌, sym, subst, arith}
use Rattle.runs.specs.declared.closure.ClosedRuns.{ClosedRuns}
use Rattle.runs.proofs.Closing.{reflexive_runs, closed_runs, reach_ends}
use Rattle.runs.proofs.Reaching.{reach_one, reach_map}
use Rattle.matching.specs.declared.step.Step.{Step}
use Rattle.matching.specs.declared.step.Step.TheVariants.{Closed}
use Rattle.matching.specs.Steps.{StepCounted, Repeats}
use Rattle.matching.proofs.step.Step.starred.Goals as goal

-- any number of any number of runs is any number of runs
closed_repeats : (each : ClosedRuns) (n : ℕ) → each.runs.count ≡ n → Repeats (Closed each) (Closed each) n
closed_repeats each n whole = record {
  counted = whole;
  ends = λ i j. (
    λ e. (omega (arith, whole, e.0), reach_one (omega (arith, whole, e.0), e)),
    λ t. reach_ends each.runs (reflexive_runs each.runs each.reflexive) (closed_runs each.runs each.closed) (omega (arith, whole, t.0)) (reach_map (λ k m w. w.1) t.1),
  );
}

pub returns-in-Closed : goal.returns-in-Closed
returns-in-Closed c =
    let n = c.args.places.count in
    subst (λ (step : Step). StepCounted step n → Repeats step step n) (sym c.in-Closed.is) (closed_repeats c.in-Closed.field-0 n)

pub returns-in_default : goal.returns-in_default
returns-in_default c whole =
    let runs = c.into_runs.ensures whole in
    let closed = c.closed.ensures in
    record {
      counted = closed.kept ∙ runs.counted;
      ends = λ i j. (
        λ e. let (lt, way) = (closed.ends i j).0 e in (omega (arith, runs.counted), reach_map (λ k m. (runs.ends k m).0) way),
        λ t. (closed.ends i j).1 (omega (arith, t.0, runs.counted), reach_map (λ k m. (runs.ends k m).1) t.1),
      );
    }
