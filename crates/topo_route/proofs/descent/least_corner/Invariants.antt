use Rattle.topo_route.specs.FaceHeights.{dart_heights}
use Rattle.topo_route.specs.Names.{height_of}
use Rattle.topo_route.proofs.plans.Tests.{LowestBefore}
use Rattle.topo_route.proofs.descent.least_corner.Given as goal

abbrev pub invariant-loop-position : goal.invariant-loop-position
invariant-loop-position g l =
    let named = g.W.FaceGraph.named l.graph in
    LowestBefore named.rows l.u (height_of named (dart_heights named (g.W.FaceGraph.face_of l.graph) l.heights)) l.least l.position
