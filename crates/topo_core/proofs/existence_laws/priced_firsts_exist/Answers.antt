use Rattle.topo_core.proofs.routing.FirstRoutes.{priced_firsts_exist}
use Rattle.topo_core.proofs.existence_laws.priced_firsts_exist.Goals as goal

pub returns : goal.returns
returns g c = priced_firsts_exist g.P.Prices.price
