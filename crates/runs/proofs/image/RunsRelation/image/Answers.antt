use Rattle.std.proofs.Common.{rules}
use Rattle.runs.specs.Runs.{Ends}
use Rattle.runs.proofs.Images.{found_more}
use Rattle.runs.proofs.image.RunsRelation.image.Goals as goal

pub loop-m-preserved : goal.loop-m-preserved
loop-m-preserved c =
    let step = c.in-Some.ensures.steps in
    found_more (Ends c.args.self.now) c.args.starts.digits _ _ _ _ _ c.loop-m.invariant step.first.here step.others (λ j. let row = c.row.ensures j in let both = c.union-ends.ensures j in search rules)
