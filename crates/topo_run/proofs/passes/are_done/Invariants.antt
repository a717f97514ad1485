use Rattle.std.proofs.Common.{◌≡◌, ◌<◌, ℕ, slice_index_or}
use Rattle.topo_service.specs.declared.workers.WorkerEnd.{WorkerEnd}
use Rattle.topo_service.specs.declared.workers.WorkerEnd.TheVariants.{Done}
use Rattle.topo_run.proofs.passes.are_done.Given as goal

abbrev pub invariant-loop-end : goal.invariant-loop-end
invariant-loop-end l = (k : ℕ) (d : WorkerEnd) → k < l.end-index → slice_index_or l.ends k d ≡ Done
