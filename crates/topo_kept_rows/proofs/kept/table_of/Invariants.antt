use Rattle.topo_kept_rows.proofs.rows.Keeping.{AreNoted}
use Rattle.topo_kept_rows.proofs.kept.table_of.Given as goal

-- the crossings so far, with their ids, and room for the others
abbrev pub invariant-loop-row : goal.invariant-loop-row
invariant-loop-row l = AreNoted l.rows l.row-index l.table
