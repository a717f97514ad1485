use Rattle.topo_route.proofs.surviving.Searched.{survives}
use Rattle.topo_route.proofs.planned.laws.routes_survive.Goals as goal

pub returns : goal.returns
returns g c before after m u v height r p = survives
