use Rattle.std.proofs.Common.{◌<◌, length, subst, arith, below_more}
use Rattle.matching.specs.Ordering.{IsJudged}
use Rattle.openings.specs.Answers.{groups_of}
use Rattle.matching.specs.Judging.{table_of}
use Rattle.matching.proofs.Views.{texts_count}
use Rattle.matching.proofs.Ahead.{goes_both, goes_below}
use Rattle.matching.proofs.judge.Judge.judge_groups.Goals as goal

pub judge_group-requires : goal.judge_group-requires
judge_group-requires g c = goes_below c.loop-k.invariant.0 (omega (arith, texts_count (table_of c.args.self.now) c.texts-k-end.result.now c.texts-k-end.ensures))

pub loop-k-preserved : goal.loop-k-preserved
loop-k-preserved g c =
    let goes = c.judge_group.ensures.goes in
    (goes_both c.loop-k.invariant.0 goes, below_more (IsJudged c.judge_group.new.self) c.loop-k.k (λ j lt. goes.kept j (c.loop-k.invariant.1 j lt)) c.judge_group.ensures.here)

pub returns-clause-all : goal.returns-clause-all
returns-clause-all g c k lt =
    let was = c.args.self.now in
    let below : k < length (table_of was) = subst (λ o. k < length (groups_of o)) c.loop-k.invariant.0.stays.list lt in
    c.loop-k.invariant.1 k (omega (arith, below, texts_count (table_of was) c.texts-k-end.result.now c.texts-k-end.ensures))
