use Rattle.std.proofs.Common.{◌≡◌, ◌<◌, ◌≤◌, false, ℕ}
use Rattle.std.specs.Prelude.{slice_index_or}
use Rattle.topo_embedded.specs.Halves.{on_segment}
use Rattle.topo_embedded.proofs.path.Path.place_from.Given as goal

-- the half is on none of the segments so far, from the place on
abbrev pub invariant-loop-place : goal.invariant-loop-place
invariant-loop-place l = (k : ℕ) → l.from ≤ k → k < l.place → on_segment l.half (slice_index_or l.self k 0) ≡ false
