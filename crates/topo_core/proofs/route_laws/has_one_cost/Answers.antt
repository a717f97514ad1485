use Rattle.topo_core.proofs.routing.Certificates.{one_cost, single_price}
use Rattle.topo_core.proofs.route_laws.has_one_cost.Goals as goal

pub returns : goal.returns
returns g c rows promise = one_cost g.P.Prices.price rows (single_price g.P.Prices.price rows promise)
