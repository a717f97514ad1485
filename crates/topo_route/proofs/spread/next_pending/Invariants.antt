use Rattle.std.proofs.Common.{◌≡◌, ◌<◌, ◌≤◌, ◌^◌, ℕ, length}
use Rattle.std.specs.Prelude.{slice_index}
use Rattle.topo_route.specs.Names.{IsName}
use Rattle.topo_route.specs.Searches.{AreLeft, heights_on}
use Rattle.topo_route.specs.Settling.{is_pending, top_of}
use Rattle.topo_route.proofs.spread.next_pending.Given as goal

abbrev pub invariant-loop-item : goal.invariant-loop-item
invariant-loop-item g l =
    let heights = heights_on g.W.FaceGraph l.graph l.heights in
    record {
      same : (k : ℕ) → k < 2 ^ 32 → IsName (g.W.FaceGraph.named l.graph) k
          → slice_index heights k < top_of l.level l.most (heights_on g.W.FaceGraph l.graph l.other) k
          → is_pending heights l.waiting k ≡ is_pending heights l.initial.waiting k;
      left : AreLeft l.initial.waiting l.waiting;
      len : length l.waiting ≤ length l.initial.waiting;
    }

abbrev pub decreases-loop-item : goal.decreases-loop-item
decreases-loop-item g l = length l.waiting
