use Rattle.station.proofs.Spares.{dash_name, ok_by}
use Rattle.station.proofs.process.Process.spare.Goals as goal

pub unwrap-requires : goal.unwrap-requires
unwrap-requires c = ok_by _ _ c.new.result c.new.ensures (λ f h. h.unlawful dash_name)
