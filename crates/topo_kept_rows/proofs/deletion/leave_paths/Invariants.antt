use Rattle.std.proofs.Common.{◌≡◌, map, take}
use Rattle.topo_core.specs.Changes.{uncrossed_row}
use Rattle.topo_table.specs.Places.{ids_of}
use Rattle.topo_kept_rows.specs.Keeping.{HaveOwnIds, edges_of}
use Rattle.topo_kept_rows.proofs.deletion.leave_paths.Given as goal

-- the crossings so far are gone
abbrev pub invariant-loop-x : goal.invariant-loop-x
invariant-loop-x l = record {
  edges_are : edges_of l.edges ≡ map (uncrossed_row (take l.x-index l.path)) (edges_of l.fn.edges);
  ids : ids_of l.edges.slots ≡ ids_of l.fn.edges.slots;
  own : HaveOwnIds l.edges;
}
