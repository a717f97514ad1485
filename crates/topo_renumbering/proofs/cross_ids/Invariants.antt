use Rattle.std.proofs.Common.{◌≡◌, map, take}
use Rattle.topo_core.specs.declared.rows.CrossRow.{CrossRow}
use Rattle.topo_renumbering.proofs.cross_ids.Given as goal

abbrev pub invariant-loop-crossing : goal.invariant-loop-crossing
invariant-loop-crossing l = l.ids.items ≡ map (λ (x : CrossRow). x.id) (take l.crossing-index l.crossings)
