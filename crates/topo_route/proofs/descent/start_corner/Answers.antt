use Rattle.std.proofs.Common.{arith}
use Rattle.topo_route.proofs.spreading.FaceHeights.{dart_capped}
use Rattle.topo_route.proofs.descent.start_corner.Goals as goal

pub returns-then-least : goal.returns-then-least
returns-then-least g c p d at =
    let named = g.W.FaceGraph.named c.args.graph.now in
    omega (
      arith,
      c.if-least.true,
      c.least_corner-least.ensures.low p d at,
      dart_capped named (g.W.FaceGraph.face_of c.args.graph.now) c.args.heights.now c.in_range.ensures (named.name d),
    )
