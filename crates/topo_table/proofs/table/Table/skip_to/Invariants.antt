use Rattle.std.proofs.Common.{◌≡◌, length}
use Rattle.topo_table.specs.Places.{AreBelow, AreOwnPlaces, entries}
use Rattle.topo_table.proofs.table.Table.skip_to.Given as goal

-- the same values, and a place for each id so far
abbrev pub invariant-loop-missing : goal.invariant-loop-missing
invariant-loop-missing g l = record {
  same : entries l.self ≡ entries l.fn.self;
  below : AreBelow l.missing l.self.slots;
  own : AreOwnPlaces l.fn.self.slots → AreOwnPlaces l.self.slots × (length l.self.slots ≡ l.missing);
}
