use Rattle.std.proofs.Common.{◌∙◌, sym, refl, subst, arith}
use Rattle.std.proofs.lemmas.Bool.{false≢true}
use Rattle.topo_core.specs.Cycles.{SameCycle}
use Rattle.topo_core.specs.Picture.{system}
use Rattle.topo_core.specs.Systems.{SameFace}
use Rattle.topo_route.specs.Numbers.{dart_of, next_of}
use Rattle.topo_route.proofs.names.Canonical.{lawful_shown}
use Rattle.topo_route.proofs.names.Numbers.{face_of_numbers, number_of, numbers_of_face}
use Rattle.topo_route.proofs.plans.Tests.{before_some, before_past}
use Rattle.topo_route.proofs.walks.has_first_end.Goals as goal
use Rattle.topo_route.proofs.walks.has_first_end.Goals.{in-Some+else-same_face, in_default}

pub returns-then-same_face : goal.returns-then-same_face
returns-then-same_face g c = grind (arith, false≢true, face_of_numbers, lawful_shown)

pub loop-position-preserved : goal.loop-position-preserved
loop-position-preserved g c =
    let rows = g.D.Dual.shows c.args.dual.now in
    let lawful = lawful_shown (g.met.D.Dual.numbered c.args.dual.now) (g.met.D.FaceGraph.lawful c.args.dual.now) in
    elim c.match-corner_at.branch [
      | in-Some+else-same_face w ↦
          before_some rows c.args.v (λ p d. SameFace (system rows) (dart_of rows c.args.last) d → ⊥) c.loop-position.position (dart_of rows w.in-Some.corner)
          w.in-Some.ensures.1
          (λ same. false≢true (sym w.if-same_face.false ∙ w.same_face.ensures.1
          (subst (SameCycle (next_of rows) c.args.last) (number_of rows lawful w.in-Some.corner w.in-Some.ensures.0)
          (numbers_of_face rows lawful c.args.last (dart_of rows w.in-Some.corner) c.requires same))))
          c.loop-position.invariant
      | in_default w ↦ before_past rows c.args.v (λ p d. SameFace (system rows) (dart_of rows c.args.last) d → ⊥)
          c.loop-position.position w.in_default.ensures c.loop-position.invariant
    ]

pub returns : goal.returns
returns g c = (λ w p d l. c.loop-position.invariant p d (omega arith), λ first. refl)
