use Rattle.topo_price.specs.Prices.{prices_of}
use Rattle.std.specs.Prelude.{slice_index}
use Rattle.topo_route.specs.FaceHeights.{dart_heights}
use Rattle.topo_route.specs.Descents.{AreHeightsUpTo, Descends}
use Rattle.topo_route.proofs.descent.descend.Given as goal

-- a walk down so far, and heights that are known as far up as where it is
abbrev pub invariant-loop-dart : goal.invariant-loop-dart
invariant-loop-dart g l =
    let named = g.W.FaceGraph.named l.priced.graph.now in
    let price = prices_of (g.F.PriceFn.may_return l.priced.tariff.now) in
    let heights = dart_heights named (g.W.FaceGraph.face_of l.priced.graph.now) l.heights in
    record {
      descends : Descends price named heights l.from l.crossed.items l.at;
      known : AreHeightsUpTo price named l.v heights l.at;
    }

abbrev pub decreases-loop-dart : goal.decreases-loop-dart
decreases-loop-dart g l = slice_index (dart_heights (g.W.FaceGraph.named l.priced.graph.now) (g.W.FaceGraph.face_of l.priced.graph.now) l.heights) l.at
