use Rattle.topo_core.proofs.growing.Growing.{growth_keeps_embedding}
use Rattle.topo_core.proofs.laws.growth_keeps_embedding.Goals as goal

pub returns : goal.returns
returns c = growth_keeps_embedding
