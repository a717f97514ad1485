use Rattle.std.proofs.Common.{◌≡◌, ◌≤◌, List, length, take, true}
use Rattle.std.specs.Prelude.{map}
use Rattle.topo_core.specs.declared.rows.EdgeRow.{EdgeRow}
use Rattle.topo_table.specs.Places.{KeepsPlaces}
use Rattle.topo_kept_rows.specs.Inserting.{crossed_by, paths_below}
use Rattle.topo_kept_rows.specs.Keeping.{HaveOwnIds, edges_of}
use Rattle.topo_kept_rows.proofs.insertion.uncross.Given as goal

abbrev pub invariant-loop-n : goal.invariant-loop-n
invariant-loop-n l = record {
  within : l.n ≤ length l.darts;
  crossed : (was : List EdgeRow) → paths_below l.first was ≡ true → edges_of l.fn.edges ≡ map (crossed_by l.first l.darts) was
      → edges_of l.edges ≡ map (crossed_by l.first (take l.n l.darts)) was;
  places : KeepsPlaces l.fn.edges l.edges;
  own : HaveOwnIds l.edges;
}

abbrev pub decreases-loop-n : goal.decreases-loop-n
decreases-loop-n l = l.n
