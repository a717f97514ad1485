use Rattle.topo_core.proofs.routing.Reaching.{routes_exist}
use Rattle.topo_core.proofs.route_laws.routes_exist.Goals as goal

pub returns : goal.returns
returns g c = routes_exist g.P.Prices.price
