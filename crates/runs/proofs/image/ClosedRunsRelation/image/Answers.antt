use Rattle.runs.proofs.Closing.{closed_runs}
use Rattle.runs.proofs.image.ClosedRunsRelation.image.Goals as goal

pub closed_image-requires : goal.closed_image-requires
closed_image-requires c m k j h = closed_runs c.args.self.now.runs c.args.self.now.closed m k j
