use Rattle.std.proofs.Common.{◌≡◌, ◌≢◌, ◌∙◌, arith}
use Rattle.topo_route.specs.FaceHeights.{dart_heights}
use Rattle.topo_route.specs.Names.{height_of}
use Rattle.topo_route.proofs.names.Names.{height_named}
use Rattle.topo_route.proofs.plans.Tests.{before_all, before_some, before_past}
use Rattle.topo_route.proofs.descent.corner_of_height.Goals as goal
use Rattle.topo_route.proofs.descent.corner_of_height.Goals.{in-Some+else-height_at-height, in_default}

pub returns-then-height_at-height : goal.returns-then-height_at-height
returns-then-height_at-height g c = grind (arith, height_named)

pub loop-position-preserved : goal.loop-position-preserved
loop-position-preserved g c = grind (arith, in-Some+else-height_at-height, height_named, before_some, in_default, before_past)

pub returns : goal.returns
returns g c =
    let named = g.W.FaceGraph.named c.args.graph.now in
    let whole : c.loop-position.position ≡ c.degree-position-end.result = omega arith in
    before_all named.rows c.args.u
    (λ p d. height_of named (dart_heights (g.W.FaceGraph.named c.args.graph.now) (g.W.FaceGraph.face_of c.args.graph.now) c.args.heights.now) d ≢ c.args.height)
    c.loop-position.position (whole ∙ c.degree-position-end.ensures) c.loop-position.invariant
