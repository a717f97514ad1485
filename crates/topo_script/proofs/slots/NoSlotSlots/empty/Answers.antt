use Rattle.std.proofs.Common.{[], refl}
use Rattle.topo_script.proofs.Objects.{none_there}
use Rattle.topo_script.proofs.slots.NoSlotSlots.empty.Goals as goal

pub returns : goal.returns
returns c = record { values = []; held = refl; none = none_there }
