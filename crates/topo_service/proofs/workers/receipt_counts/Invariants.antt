use Rattle.std.proofs.Common.{◌≡◌, ◌≤◌, length, map, take}
use Rattle.std.specs.Prelude.{vec_capacity, vec_len}
use Rattle.topo_service.specs.Commands.{receipts_of}
use Rattle.topo_service.proofs.workers.receipt_counts.Given as goal

abbrev pub invariant-loop-pass : goal.invariant-loop-pass
invariant-loop-pass g l = (l.counts.items ≡ map receipts_of (take l.pass-index l.passes)) × (vec_len l.counts ≡ l.pass-index)
    × (length l.passes ≤ vec_capacity l.counts)
