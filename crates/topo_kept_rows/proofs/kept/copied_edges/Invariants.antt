use Rattle.topo_kept_rows.proofs.rows.KeepingEdges.{AreEdgesCopied}
use Rattle.topo_kept_rows.proofs.kept.copied_edges.Given as goal

-- the edges at the places so far are copied
abbrev pub invariant-loop-place : goal.invariant-loop-place
invariant-loop-place l = AreEdgesCopied l.edges.slots l.limit l.place l.copy
