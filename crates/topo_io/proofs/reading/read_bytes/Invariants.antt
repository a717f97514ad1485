use Rattle.std.proofs.Common.{◌≡◌, ◌≤◌, ◌+◌, length}
use Rattle.std.specs.Io.KnownBytes.{Consumes}
use Rattle.topo_io.specs.Reading.{after_calls}
use Rattle.topo_io.proofs.reading.read_bytes.Given as goal

abbrev pub invariant-loop : goal.invariant-loop
invariant-loop g l = Consumes l.fn.reader.left l.reader.left l.bytes.items × (length l.bytes.items ≤ l.most + 1)
    × (l.reader.calls ≡ after_calls l.fn.reader.calls l.counter)
