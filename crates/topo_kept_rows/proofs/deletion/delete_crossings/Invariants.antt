use Rattle.topo_kept_rows.proofs.rows.Keeping.{AreTakenOut}
use Rattle.topo_kept_rows.proofs.deletion.delete_crossings.Given as goal

-- the crossings so far are out
abbrev pub invariant-loop-x : goal.invariant-loop-x
invariant-loop-x l = AreTakenOut l.fn.crossings l.path l.x-index l.crossings
