use Rattle.topo_core.proofs.routing.Certificates.{route_bound}
use Rattle.topo_core.proofs.routing.RouteDarts.{certified}
use Rattle.topo_core.proofs.route_laws.certificate_bounds.Goals as goal

pub returns : goal.returns
returns g c rows u v height good certificate = route_bound g.P.Prices.price rows u v height (certified g.P.Prices.price rows u v height good certificate)
