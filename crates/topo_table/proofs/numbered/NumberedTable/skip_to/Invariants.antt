use Rattle.std.proofs.Common.{◌≡◌, length, ◌≤◌}
use Rattle.topo_table.specs.Places.{AreOwnPlaces, present}
use Rattle.topo_table.proofs.numbered.NumberedTable.skip_to.Given as goal

-- the same values, and a place for each number so far
abbrev pub invariant-loop-missing : goal.invariant-loop-missing
invariant-loop-missing g l = record {
  same : present l.self-inside.slots.items ≡ present l.initial.self-inside.slots.items;
  own : AreOwnPlaces l.self-inside.slots.items;
  count : length l.self-inside.slots.items ≡ l.missing;
}
