use Rattle.topo_core.proofs.routing.SimpleRoutes.{simple_is_insertable}
use Rattle.topo_core.proofs.laws.simple_routes_are_insertable.Goals as goal

pub returns : goal.returns
returns c = λ rows u v kind r. simple_is_insertable rows u v r
