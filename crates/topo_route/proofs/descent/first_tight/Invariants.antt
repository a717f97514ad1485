use Rattle.std.proofs.Common.{◌≡◌}
use Rattle.topo_core.specs.Cycles.{after}
use Rattle.topo_price.specs.Prices.{prices_of}
use Rattle.topo_route.specs.FaceHeights.{dart_heights}
use Rattle.topo_route.specs.Names.{IsName, next_name}
use Rattle.topo_route.proofs.meeting.Descending.{FirstSoFar}
use Rattle.topo_route.proofs.descent.first_tight.Given as goal

-- where the walk is, and the first tight dart that it has met
abbrev pub invariant-loop-steps : goal.invariant-loop-steps
invariant-loop-steps g l =
    let named = g.W.FaceGraph.named l.priced.graph.now in
    record {
      place : l.dart ≡ after (next_name named) l._steps l.at;
      name : IsName named l.dart;
      so_far : FirstSoFar (prices_of (g.F.PriceFn.may_return l.priced.tariff.now)) named
          (dart_heights named (g.W.FaceGraph.face_of l.priced.graph.now) l.heights) l.at l._steps l.first;
    }
