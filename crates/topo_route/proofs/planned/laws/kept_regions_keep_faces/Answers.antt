use Rattle.topo_route.proofs.surviving.KeptRegions.{kept_ends_to_start, kept_faces}
use Rattle.topo_route.proofs.planned.laws.kept_regions_keep_faces.Goals as goal

pub returns : goal.returns
returns c before now region inside u v start lawful lawful_now of_before kept faces held at_u at_v starts target = (
  kept_faces before now region inside lawful lawful_now of_before kept faces held,
  kept_ends_to_start u v start kept held at_u at_v starts target,
)
