use Rattle.std.proofs.Common.{◌≡◌, take}
use Rattle.topo_table.proofs.numbered.NumberedTable.try_copy.Given as goal

-- the places so far
abbrev pub invariant-loop-place : goal.invariant-loop-place
invariant-loop-place g l = l.slots.items ≡ take l.place l.self-inside.slots.items
