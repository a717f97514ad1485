use Rattle.topo_core.proofs.routing.Certificates.{length-le-cost}
use Rattle.topo_core.proofs.route_laws.costs_at_least_length.Goals as goal

pub returns : goal.returns
returns g c rows promise = length-le-cost g.P.Prices.price rows (λ d p asked. promise.positive asked.facts p asked.asked)
