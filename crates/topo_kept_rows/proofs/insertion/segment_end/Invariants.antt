use Rattle.std.proofs.Common.{◌≡◌, ◌+◌, drop}
use Rattle.topo_kept_rows.specs.Inserting.{segment_end}
use Rattle.topo_kept_rows.proofs.insertion.segment_end.Given as goal

abbrev pub invariant-loop-i : goal.invariant-loop-i
invariant-loop-i l = l.i + segment_end l.first l.left (drop l.i l.path) ≡ segment_end l.first l.segment l.path
