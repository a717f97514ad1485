use Rattle.topo_core.proofs.stepping.Determined.{one_step}
use Rattle.topo_core.proofs.step_laws.steps_are_determined.Goals as goal

pub returns : goal.returns
returns g c limits p = one_step g.P.Prices.price limits p
