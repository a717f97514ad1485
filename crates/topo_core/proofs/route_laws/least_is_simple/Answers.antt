use Rattle.topo_core.proofs.routing.LeastRoutes.{least_is_simple}
use Rattle.topo_core.proofs.route_laws.least_is_simple.Goals as goal

pub returns : goal.returns
returns g c rows promise good = least_is_simple g.P.Prices.price promise rows good
