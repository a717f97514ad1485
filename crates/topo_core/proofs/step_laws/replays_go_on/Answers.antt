use Rattle.topo_core.proofs.stepping.Replaying.{replays_on}
use Rattle.topo_core.proofs.step_laws.replays_go_on.Goals as goal

pub returns : goal.returns
returns g c limits = replays_on g.P.Prices.price limits
