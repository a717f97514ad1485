use Rattle.topo_kept_rows.proofs.rows.KeepingEdges.{AreEdgesNoted}
use Rattle.topo_kept_rows.proofs.kept.edge_table.Given as goal

-- the edges so far, with their ids
abbrev pub invariant-loop-row : goal.invariant-loop-row
invariant-loop-row l = AreEdgesNoted l.rows l.limit l.row-index l.table
