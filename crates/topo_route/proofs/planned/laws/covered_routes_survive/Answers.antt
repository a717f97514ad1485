use Rattle.topo_route.proofs.surviving.Surviving.{covered_survives}
use Rattle.topo_route.proofs.planned.laws.covered_routes_survive.Goals as goal

pub returns : goal.returns
returns g c old new m u v height outside r p promise lawful keeps ends covers =
    covered_survives g.P.Prices.price old new m u v height outside r p keeps ends covers promise lawful
