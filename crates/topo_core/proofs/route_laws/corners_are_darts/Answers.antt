use Rattle.topo_core.proofs.routing.RouteDarts.{corner_in}
use Rattle.topo_core.proofs.route_laws.corners_are_darts.Goals as goal

pub returns : goal.returns
returns c rows good = corner_in rows good
