use Rattle.topo_core.proofs.routing.Existence.{no_route}
use Rattle.topo_core.proofs.existence_laws.firsts_exist.Goals as goal

pub returns : goal.returns
returns g c promise rows u v none = no_route g.P.Prices.price promise rows u v none
