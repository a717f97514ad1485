use Rattle.std.proofs.Common.{◌≡◌, take}
use Rattle.std.specs.Prelude.{map}
use Rattle.topo_table.specs.Places.{KeepsPlaces}
use Rattle.topo_kept_rows.specs.Inserting.{crossed_by}
use Rattle.topo_kept_rows.specs.Keeping.{HaveOwnIds, edges_of}
use Rattle.topo_kept_rows.proofs.insertion.cross_some.Given as goal

abbrev pub invariant-loop-i : goal.invariant-loop-i
invariant-loop-i l = record {
  crossed : edges_of l.edges ≡ map (crossed_by l.first (take l.i l.darts)) (edges_of l.fn.edges);
  places : KeepsPlaces l.fn.edges l.edges;
  own : HaveOwnIds l.edges;
}
