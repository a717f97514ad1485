use Rattle.std.proofs.Common.{refl}
use Rattle.topo_service.proofs.close.Service+F+K.with_places.Goals as goal

pub returns : goal.returns
returns g c = rw c.new-2.ensures refl
