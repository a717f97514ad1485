use Rattle.std.proofs.Common.{◌≡◌, ◌*◌, ◌++◌, drop, take, sum_by}
use Rattle.topo_core.specs.Picture.{segment_count}
use Rattle.topo_rows.specs.Flats.{begins_from}
use Rattle.topo_rows.proofs.flat.write_begins.Given as goal

-- what is still to come goes behind what is there
abbrev pub invariant-loop-i : goal.invariant-loop-i
invariant-loop-i l = record {
  counted : l.next ≡ 2 * sum_by segment_count (take l.i l.edges);
  listed : take l.i l.begins ++ begins_from l.next (drop l.i l.edges) ≡ begins_from 0 l.edges;
}
