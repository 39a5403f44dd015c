use Rattle.station.proofs.Spares.{dash_path, empty_list, ok_by}
use Rattle.station.proofs.place.Place.spare.Goals as goal

pub unwrap-requires : goal.unwrap-requires
unwrap-requires c = ok_by _ _ c.new.result c.new.ensures (λ f h. h.unlawful dash_path)

pub unwrap-requires-2 : goal.unwrap-requires-2
unwrap-requires-2 c = ok_by _ _ c.new-2.result c.new-2.ensures.answer (λ f h. h.unlawful empty_list)
