use Rattle.std.proofs.Common.{arith}
use Rattle.topo_route.proofs.names.Canonical.{corner_is_number}
use Rattle.topo_route.proofs.faces.corner_at.Goals as goal

pub returns : goal.returns
returns g c = grind (arith, corner_is_number)
