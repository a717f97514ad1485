use Rattle.topo_core.proofs.routing.Existence.{some_step}
use Rattle.topo_core.proofs.existence_laws.steps_exist.Goals as goal

pub returns : goal.returns
returns g c promise limits p call none = some_step g.P.Prices.price promise limits p call none
