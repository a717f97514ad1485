use Rattle.topo_kept_rows.proofs.rows.KeepingEdges.{AreHandedOver}
use Rattle.topo_kept_rows.proofs.kept.edges_as_list.Given as goal

-- the edges at the places so far are handed over
abbrev pub invariant-loop-place : goal.invariant-loop-place
invariant-loop-place l = AreHandedOver l.fn.edges.slots l.place l.left.slots l.rows.items
