use Rattle.topo_table.proofs.PlaceLemmas.{IsCopiedTo}
use Rattle.topo_table.proofs.table.Table.copy.Given as goal

abbrev pub invariant-loop-place : goal.invariant-loop-place
invariant-loop-place g l = IsCopiedTo l.place l.slots.entries l.self.slots
