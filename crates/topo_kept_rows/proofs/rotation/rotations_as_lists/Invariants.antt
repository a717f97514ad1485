use Rattle.std.proofs.Common.{◌≡◌}
use Rattle.topo_kept_rows.proofs.rotation.rotations_as_lists.Given as goal

-- those that were handed over so far
abbrev pub invariant-loop-rotation : goal.invariant-loop-rotation
invariant-loop-rotation l = l.lists.items ≡ l.yielded
