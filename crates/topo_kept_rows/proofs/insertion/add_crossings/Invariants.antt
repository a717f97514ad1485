use Rattle.topo_kept_rows.proofs.rows.Keeping.{AreAdded}
use Rattle.topo_kept_rows.proofs.insertion.add_crossings.Given as goal

-- the crossings of the darts so far, and room for the others
abbrev pub invariant-loop-i : goal.invariant-loop-i
invariant-loop-i l = AreAdded l.fn.crossings l.darts l.first l.edge l.i l.crossings
