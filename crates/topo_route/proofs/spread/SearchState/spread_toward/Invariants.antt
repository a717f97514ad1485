use Rattle.topo_route.specs.Searches.{GoesOn, priced_faces, top_toward}
use Rattle.topo_route.specs.Settling.{effort}
use Rattle.topo_route.proofs.spread.SearchState.spread_toward.Given as goal

abbrev pub invariant-loop-dart : goal.invariant-loop-dart
invariant-loop-dart g l =
    GoesOn (priced_faces g.W.FaceGraph g.F.PriceFn l.priced) l.v l.other (top_toward g.W.FaceGraph l.priced.graph.now l.guide l.least)
    l.initial.self l.initial.least l.self l.least

abbrev pub decreases-loop-dart : goal.decreases-loop-dart
decreases-loop-dart g l = effort l.self.heights l.self.waiting
