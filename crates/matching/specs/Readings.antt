-- How a reading changes.
use Rattle.std.specs.Prelude.{◌≡◌, ℕ, ◌↔◌, Some, None, Option, MatchOption}
use Rattle.runs.specs.declared.relation.Runs.{Runs}
use Rattle.runs.specs.Relations.{Identity, United, Composed}
use Rattle.runs.specs.Runs.{Ends}
use Rattle.matching.specs.declared.step.Step.{Step}
use Rattle.matching.specs.declared.reading.Reading.{Reading}
use Rattle.matching.specs.Steps.{StepEnds, StepCounted, Repeats}

-- nothing has been read
pub record Begins (starts : ℕ) (reading : Reading) : Type 0 where
  pub first : reading.starts.count ≡ starts
  pub done : (i j : ℕ) → Ends reading.done i j → ⊥
  pub seq : (i j : ℕ) → Ends reading.seq i j ↔ Identity starts i j
  pub last : reading.last ≡ None

-- runs that go on by the last step, if there is one
abbrev pub Joined : Runs → Option Step → ℕ → ℕ → Type 0
Joined seq last i j = MatchOption last (Ends seq i j) (λ step. Composed (Ends seq) (StepEnds step) i j)

-- one step more
pub record Pushed (before : Reading) (step : Step) (after : Reading) : Type 0 where
  pub first : after.starts ≡ before.starts
  pub done : after.done ≡ before.done
  pub seq : (i j : ℕ) → Ends after.seq i j ↔ Joined before.seq before.last i j
  pub last : after.last ≡ Some step

-- the last step is repeated, if there is one and its runs are from the first n places
abbrev pub LastRepeats : Option Step → Option Step → ℕ → Type 0
LastRepeats before after n = MatchOption before (after ≡ None) (λ step. (repeated : Step) × ((after ≡ Some repeated) × (StepCounted step n → Repeats step repeated n)))

pub record Repeated (before : Reading) (places : ℕ) (after : Reading) : Type 0 where
  pub first : after.starts ≡ before.starts
  pub done : after.done ≡ before.done
  pub seq : after.seq ≡ before.seq
  pub last : LastRepeats before.last after.last places

-- runs that end by the last step; without one there is no such run
abbrev pub Ended : Runs → Option Step → ℕ → ℕ → Type 0
Ended seq last i j = MatchOption last ⊥ (λ step. Composed (Ends seq) (StepEnds step) i j)

-- the runs that are done, with those of the sequence
pub record Finished (reading : Reading) (runs : Runs) : Type 0 where
  pub counted : runs.count ≡ reading.starts.count
  pub ends : (i j : ℕ) → Ends runs i j ↔ United (Ends reading.done) reading.starts.count (Ended reading.seq reading.last) i j

-- a sequence is done, and another one begins
pub record Barred (before after : Reading) : Type 0 where
  pub first : after.starts ≡ before.starts
  pub done : Finished before after.done
  pub seq : (i j : ℕ) → Ends after.seq i j ↔ Identity before.starts.count i j
  pub last : after.last ≡ None
