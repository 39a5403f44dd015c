use Rattle.std.proofs.Common.{rules}
use Rattle.runs.specs.Runs.{Ends}
use Rattle.runs.proofs.Images.{found_skip}
use Rattle.runs.proofs.relation.Runs.closed_image.Goals as goal

pub loop-m-preserved : goal.loop-m-preserved
loop-m-preserved c =
    let o = c.in-Some.ensures in
    let row = c.row-row.ensures in (
      found_skip (Ends c.args.self.now) c.args.starts.digits _ _ _ _ _ c.loop-m.invariant.0 o.first.here o.others (λ j. let more = row j in let both = c.union-ends.ensures j in search rules) _ _ row c.without-left.ensures.places (λ k j. c.requires c.in-Some.m k j (c.loop-m.invariant.1 c.in-Some.m o.first.here)),
      λ m h. c.loop-m.invariant.1 m ((o.others m).0 ((c.without-left.ensures.places m).0 h).0).0,
    )
