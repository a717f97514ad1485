use Rattle.std.proofs.Common.{◌≡◌, ◌∙◌, arith}
use Rattle.topo_route.specs.FaceHeights.{dart_heights}
use Rattle.topo_route.specs.Names.{height_of}
use Rattle.topo_route.proofs.names.Names.{height_named}
use Rattle.topo_route.proofs.plans.Tests.{lowest_all, lowest_found, lowest_kept, lowest_lower, lowest_none, lowest_past}
use Rattle.topo_route.proofs.descent.least_corner.Goals as goal
use Rattle.topo_route.proofs.descent.least_corner.Goals.{in-Some+else-height-eq0+then-height-least, in-Some+else-height-eq0+else-height-least, in_default}

pub loop-position-init : goal.loop-position-init
loop-position-init g c = let named = g.W.FaceGraph.named c.args.graph.now in lowest_none named.rows c.args.u
    (height_of named (dart_heights (g.W.FaceGraph.named c.args.graph.now) (g.W.FaceGraph.face_of c.args.graph.now) c.args.heights.now))

pub loop-position-preserved : goal.loop-position-preserved
loop-position-preserved g c = grind (
  arith,
  in-Some+else-height-eq0+then-height-least,
  lowest_lower,
  height_named,
  in-Some+else-height-eq0+else-height-least,
  lowest_kept,
  in_default,
  lowest_past,
)

pub returns-then-height-eq0-clause-attained : goal.returns-then-height-eq0-clause-attained
returns-then-height-eq0-clause-attained g c = λ some.
    let has = g.met.W.FaceGraph.has_names c.args.graph.now in grind (arith, height_named)

pub returns-clause-low : goal.returns-clause-low
returns-clause-low g c =
    let whole : c.loop-position.position ≡ c.degree-position-end.result = omega arith in
    let named = g.W.FaceGraph.named c.args.graph.now in
    lowest_all named.rows c.args.u
    (height_of named (dart_heights (g.W.FaceGraph.named c.args.graph.now) (g.W.FaceGraph.face_of c.args.graph.now) c.args.heights.now))
    c.loop-position.least c.loop-position.position (whole ∙ c.degree-position-end.ensures) c.loop-position.invariant

pub returns-clause-attained : goal.returns-clause-attained
returns-clause-attained g c = grind (arith, lowest_found)
