use Rattle.topo_core.proofs.growing.GrownFaces.{genus_after_growth}
use Rattle.topo_core.proofs.laws.growth_keeps_genus.Goals as goal

pub returns : goal.returns
returns c rows good genus_zero u p kind u_in p_in known = genus_after_growth rows u p kind good.paths good.crossings good.rotations u_in p_in known genus_zero
