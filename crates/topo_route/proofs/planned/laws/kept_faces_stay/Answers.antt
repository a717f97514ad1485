use Rattle.topo_route.proofs.surviving.Staying.{kept_on}
use Rattle.topo_route.proofs.planned.laws.kept_faces_stay.Goals as goal

pub returns : goal.returns
returns c before between after m on keeps keeps_on within = kept_on before between after m on keeps keeps_on within
