use Rattle.std.specs.Prelude.{min}
use Rattle.topo_route.specs.PricedFaces.{heights_over}
use Rattle.topo_route.specs.Searches.{GoesOn, priced_faces}
use Rattle.topo_route.specs.Settling.{effort, top_of}
use Rattle.topo_route.proofs.spread.SearchState.spread.Given as goal

abbrev pub invariant-loop-dart : goal.invariant-loop-dart
invariant-loop-dart g l =
    let p = priced_faces g.W.FaceGraph g.F.PriceFn l.priced in
    GoesOn p l.ends.v l.ends.other.now (top_of l.level (min l.most l.least) (heights_over p l.ends.other.now)) l.initial.self l.initial.least l.self l.least

abbrev pub decreases-loop-dart : goal.decreases-loop-dart
decreases-loop-dart g l = effort l.self.heights l.self.waiting
