use Rattle.std.proofs.Common.{◌≡◌, ◌<◌, ◌*◌, false, ℕ}
use Rattle.std.specs.Prelude.{slice_index_or}
use Rattle.topo_embedded.specs.Halves.{on_segment}
use Rattle.topo_embedded.proofs.path.blocks_before.Given as goal

-- the half is on no segment of the blocks so far
abbrev pub invariant-loop-block : goal.invariant-loop-block
invariant-loop-block l = (k : ℕ) → k < 32 * l.block → on_segment l.half (slice_index_or l.halves k 0) ≡ false
