use Rattle.std.proofs.Common.{◌≡◌, ◌<◌, ◌≤◌, ℕ}
use Rattle.std.specs.Prelude.{slice_index}
use Rattle.topo_route.proofs.bucket_queue.full_between.Given as goal

abbrev pub invariant-loop-bucket : goal.invariant-loop-bucket
invariant-loop-bucket l = (i : ℕ) → l.from ≤ i → i < l.bucket → slice_index l.heads i ≡ 0
