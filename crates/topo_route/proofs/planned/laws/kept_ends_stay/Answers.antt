use Rattle.topo_route.proofs.surviving.Staying.{kept_ends_on}
use Rattle.topo_route.proofs.planned.laws.kept_ends_stay.Goals as goal

pub returns : goal.returns
returns c = kept_ends_on
