use Rattle.topo_core.proofs.deleting.OpenedDarts.{joins_opened}
use Rattle.topo_core.proofs.laws.openings_keep_connection.Goals as goal

pub returns : goal.returns
returns c rows good = joins_opened rows good.paths good.crossings good.rotations
