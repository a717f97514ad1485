use Rattle.topo_route.proofs.surviving.Searched.{found_survives}
use Rattle.topo_route.proofs.planned.laws.found_routes_survive.Goals as goal

pub returns : goal.returns
returns g c named after m u v top heights r p = found_survives
