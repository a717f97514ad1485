use Rattle.topo_route.proofs.surviving.Sparing.{spared}
use Rattle.topo_route.proofs.planned.laws.regions_stay_kept.Goals as goal

pub returns : goal.returns
returns g c limits before p q region = spared g.P.Prices.price limits
