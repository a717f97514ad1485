use Rattle.topo_core.proofs.stepping.Replaying.{versions_replay}
use Rattle.topo_core.proofs.step_laws.versions_replay.Goals as goal

pub returns : goal.returns
returns g c limits = versions_replay g.P.Prices.price limits
