use Rattle.std.proofs.Common.{◌≡◌, map, take}
use Rattle.topo_core.specs.declared.rows.EdgeRow.{EdgeRow}
use Rattle.topo_renumbering.proofs.edge_ids.Given as goal

abbrev pub invariant-loop-edge : goal.invariant-loop-edge
invariant-loop-edge l = l.ids.items ≡ map (λ (e : EdgeRow). e.id) (take l.edge-index l.edges)
