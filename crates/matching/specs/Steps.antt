-- Where a step can end.
use Rattle.std.specs.Prelude.{◌≡◌, ℕ, ◌+◌, ◌<◌, ◌↔◌}
use Rattle.positions.specs.Places.{Has}
use Rattle.runs.specs.declared.relation.Runs.{Runs}
use Rattle.runs.specs.Relations.{Reach}
use Rattle.runs.specs.Runs.{Ends}
use Rattle.matching.specs.declared.step.Step.{Step}
use Rattle.matching.specs.declared.step.Step.TheVariants.{Part, Runs as Each, Closed}

-- a step from one place can end at another
abbrev pub StepEnds : Step → ℕ → ℕ → Type 0
StepEnds (Part places) i j = (j ≡ i + 1) × (j < 64) × Has places.digits i
StepEnds (Each runs) i j = Ends runs i j
StepEnds (Closed each) i j = Ends each.runs i j

-- a step that is runs has them from the first n places
abbrev pub StepCounted : Step → ℕ → Type 0
StepCounted (Part places) n = Unit {0}
StepCounted (Each runs) n = runs.count ≡ n
StepCounted (Closed each) n = each.runs.count ≡ n

-- the runs are those of a step from the first n places
pub record StepRuns (step : Step) (n : ℕ) (runs : Runs) : Type 0 where
  pub counted : runs.count ≡ n
  pub ends : (i j : ℕ) → Ends runs i j ↔ ((i < n) × StepEnds step i j)

-- any number of steps, each from one of the first n places
abbrev pub StepReach : Step → ℕ → ℕ → ℕ → Type 0
StepReach step n i j = (i < n) × Reach (λ k m. (k < n) × StepEnds step k m) i j

-- a step is another one any number of times
pub record Repeats (before after : Step) (n : ℕ) : Type 0 where
  pub counted : StepCounted after n
  pub ends : (i j : ℕ) → StepEnds after i j ↔ StepReach before n i j
