use Rattle.topo_core.proofs.systems.BarePoints.{bares}
use Rattle.topo_core.proofs.laws.opening_bares.Goals as goal

pub returns : goal.returns
returns c rows good = bares rows good.crossings good.rotations
