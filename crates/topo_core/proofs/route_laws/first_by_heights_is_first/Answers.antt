use Rattle.topo_core.proofs.routing.Certificates.{first_by_heights}
use Rattle.topo_core.proofs.routing.RouteDarts.{certified}
use Rattle.topo_core.proofs.route_laws.first_by_heights_is_first.Goals as goal

pub returns : goal.returns
returns g c rows u v height promise good certificate =
    first_by_heights g.P.Prices.price rows u v height (certified g.P.Prices.price rows u v height good certificate)
    (λ d p asked. promise.positive asked.facts p asked.asked)
