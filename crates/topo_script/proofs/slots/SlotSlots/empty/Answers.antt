use Rattle.std.proofs.Common.{◌∷◌, None}
use Rattle.topo_script.specs.Slots.{HoldsSlot}
use Rattle.topo_script.proofs.Objects.{none_more}
use Rattle.topo_script.proofs.slots.SlotSlots.empty.Goals as goal

pub returns : goal.returns
unfolding HoldsSlot
returns g c = record {
  values = None ∷ c.empty.ensures.values;
  held = (tt, c.empty.ensures.held);
  none = none_more c.empty.ensures.values c.empty.ensures.none;
}
