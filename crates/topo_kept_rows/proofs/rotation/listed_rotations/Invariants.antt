use Rattle.std.proofs.Common.{◌≡◌, take}
use Rattle.topo_kept_rows.proofs.rotation.listed_rotations.Given as goal

abbrev pub invariant-loop-rotation : goal.invariant-loop-rotation
invariant-loop-rotation l = l.lists.items ≡ take l.rotation-index l.rotations
