use Rattle.topo_core.proofs.growing.GrownFaces.{faces_after_growth}
use Rattle.topo_core.proofs.laws.growth_keeps_faces.Goals as goal

pub returns : goal.returns
returns c rows good u p kind u_in p_in known = faces_after_growth rows u p kind good.paths good.crossings good.rotations u_in p_in known
