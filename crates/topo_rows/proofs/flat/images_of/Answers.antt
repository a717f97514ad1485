use Rattle.std.proofs.Common.{◌∙◌}
use Rattle.topo_rows.proofs.flat.images_of.Goals as goal

pub link_points-requires-clause-room : goal.link_points-requires-clause-room
link_points-requires-clause-room c = c.deref_mut.ensures.len ∙ c.in_ok-images.ensures.len ∙ c.dart_count.ensures
