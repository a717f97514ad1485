use Rattle.topo_core.proofs.deleting.Openings.{opens}
use Rattle.topo_core.proofs.laws.opening_unchords.Goals as goal

pub returns : goal.returns
returns c rows good = opens rows good.paths good.crossings good.rotations
