use Rattle.std.proofs.Common.{arith}
use Rattle.topo_core.proofs.routing.RouteOrder.{one_first, one_least}
use Rattle.topo_core.proofs.step_laws.first_is_one.Goals as goal

pub returns : goal.returns
returns g c rows u v r s m n first other = grind (arith, one_first, one_least)
