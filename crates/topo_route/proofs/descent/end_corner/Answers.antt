use Rattle.std.proofs.Common.{◌∙◌, arith, sym}
use Rattle.std.proofs.lemmas.Bool.{false≢true}
use Rattle.topo_core.specs.Picture.{system}
use Rattle.topo_core.specs.Systems.{SameFace}
use Rattle.topo_route.specs.Names.{dart_named}
use Rattle.topo_route.proofs.plans.Tests.{before_all, before_past, before_some}
use Rattle.topo_route.proofs.descent.end_corner.Goals as goal
use Rattle.topo_route.proofs.descent.end_corner.Goals.{in-Some+else-same_face, in_default}

pub returns-then-same_face : goal.returns-then-same_face
returns-then-same_face g c = grind arith

pub loop-position-preserved : goal.loop-position-preserved
loop-position-preserved g c =
    let named = g.W.FaceGraph.named c.args.graph.now in
    elim c.match-corner_at.branch [
      | in-Some+else-same_face w ↦
          before_some named.rows c.args.v (λ p d. SameFace (system named.rows) (dart_named named c.args.last) d → ⊥) c.loop-position.position
          (dart_named named w.in-Some.corner) w.in-Some.ensures.1
          (λ same. false≢true (sym w.if-same_face.false ∙ w.same_face.ensures.1 same))
          c.loop-position.invariant
      | in_default w ↦ before_past named.rows c.args.v (λ p d. SameFace (system named.rows) (dart_named named c.args.last) d → ⊥)
          c.loop-position.position w.in_default.ensures c.loop-position.invariant
    ]

pub returns : goal.returns
returns g c =
    let named = g.W.FaceGraph.named c.args.graph.now in
    before_all named.rows c.args.v (λ p d. SameFace (system named.rows) (dart_named named c.args.last) d → ⊥) c.loop-position.position
    (omega (arith, c.degree-position-end.ensures)) c.loop-position.invariant
