use Rattle.std.proofs.Common.{◌≡◌, ◌≤◌, ◌<◌, ◌-◌, ℕ, [], length, slice_index_or}
use Rattle.std.specs.Prelude.{vec_capacity, vec_len}
use Rattle.topo_service.specs.declared.workers.WorkerEnd.{WorkerEnd}
use Rattle.topo_service.specs.Commands.{end_by, receipts_of}
use Rattle.topo_service.specs.Passes.{PassState}
use Rattle.topo_service.proofs.workers.tell_ends.Given as goal

abbrev pub invariant-loop-i : goal.invariant-loop-i
invariant-loop-i g l = (length l.ends.items ≡ l.i) × (vec_len l.ends ≡ l.i) × (length l.passes ≤ vec_capacity l.ends)
    × ((j : ℕ) (p : PassState) (e : WorkerEnd) → j < l.i
    → slice_index_or l.ends.items j e
    ≡ end_by (receipts_of (slice_index_or l.passes j p) - slice_index_or l.before j 0) (length (slice_index_or l.lists j [])))
