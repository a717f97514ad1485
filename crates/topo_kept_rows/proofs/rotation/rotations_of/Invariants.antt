use Rattle.std.proofs.Common.{◌≡◌, take}
use Rattle.topo_kept_rows.proofs.rotation.rotations_of.Given as goal

abbrev pub invariant-loop-list : goal.invariant-loop-list
invariant-loop-list l = l.rotations.items ≡ take l.list-index l.lists
