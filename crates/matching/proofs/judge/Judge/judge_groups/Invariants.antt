use Rattle.std.proofs.Common.{ℕ, ◌<◌}
use Rattle.matching.specs.Ordering.{IsJudged, Goes}
use Rattle.matching.proofs.judge.Judge.judge_groups.Given as goal

-- the first groups are judged
abbrev pub invariant-loop-k : goal.invariant-loop-k
invariant-loop-k g l = Goes g.R.WordRule.same l.initial.self l.self × ((j : ℕ) → j < l.k → IsJudged l.self j)
