use Rattle.std.proofs.Common.{◌≡◌, map, take}
use Rattle.std.specs.List.{range_with_len}
use Rattle.topo_core.specs.declared.rows.EdgeRow.{EdgeRow}
use Rattle.topo_renumbering.specs.Renumbering.{edge_named}
use Rattle.topo_renumbering.proofs.renamed_edges.Given as goal

abbrev pub invariant-loop-place : goal.invariant-loop-place
invariant-loop-place l = record {
  named : map (edge_named l.ids) l.new.items ≡ take l.place l.old;
  closed_up : map (λ (e : EdgeRow). e.id) l.new.items ≡ range_with_len 0 l.place;
}
