use Rattle.std.proofs.Common.{◌≡◌, ◌-◌, ◌≤◌, length}
use Rattle.matching.proofs.Walking.{Courses}
use Rattle.matching.proofs.judge.Judge.+judge.Given as goal

abbrev pub decreases-judge : goal.decreases-judge
decreases-judge g l = length l.tokens.now.text.now - l.tokens.now.at

-- the walk stays in its text and goes on, and the reading holds what it has passed
abbrev pub invariant-loop-lexeme : goal.invariant-loop-lexeme
invariant-loop-lexeme g l =
    (goal.iterator-loop-lexeme g).can_next l.tokens
    × (goal.iterator-loop-lexeme g).is_finite l.tokens
    × (l.tokens.text.now ≡ l.initial.tokens.text.now)
    × (l.initial.tokens.at ≤ l.tokens.at)
    × Courses g.R.WordRule.same l.self l.initial.tokens.text.now l.initial.tokens.at l.fn.starts.count l.tokens.at l.reading
