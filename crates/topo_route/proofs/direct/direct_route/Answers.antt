use Rattle.topo_route.specs.Descents.{HasNoEnd}
use Rattle.topo_route.specs.Names.{dart_named}
use Rattle.topo_route.proofs.plans.Tests.{before_past, before_some}
use Rattle.topo_route.proofs.direct.direct_route.Goals as goal
use Rattle.topo_route.proofs.direct.direct_route.Goals.{in-Some+in_default-end_corner, in_default}

pub loop-start-preserved : goal.loop-start-preserved
loop-start-preserved g c =
    let named = g.W.FaceGraph.named c.args.graph.now in
    elim c.match-corner_at.branch [
      | in-Some+in_default-end_corner w ↦
          before_some named.rows c.args.u (λ p d. HasNoEnd named.rows c.args.v d) c.loop-start.start (dart_named named w.in-Some.corner)
          w.in-Some.ensures.1 w.in_default-end_corner.ensures c.loop-start.invariant
      | in_default w ↦ before_past named.rows c.args.u (λ p d. HasNoEnd named.rows c.args.v d) c.loop-start.start w.in_default.ensures c.loop-start.invariant
    ]
