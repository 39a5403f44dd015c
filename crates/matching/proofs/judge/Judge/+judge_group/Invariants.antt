use Rattle.matching.proofs.Ranks.{rank}
use Rattle.matching.proofs.Ahead.{Ahead}
use Rattle.matching.proofs.judge.Judge.+judge_group.Given as goal

abbrev pub decreases-judge_group : goal.decreases-judge_group
decreases-judge_group g l = rank l.self.now.opened.now.leads l.k

abbrev pub invariant-loop-m : goal.invariant-loop-m
invariant-loop-m g l = Ahead g.R.WordRule.same l.k l.initial.self l.self l.m-iterator.left.digits
