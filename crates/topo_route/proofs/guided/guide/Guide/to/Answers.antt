use Rattle.std.proofs.Common.{◌≡◌, ◌∙◌, ℕ, inl, inr, ap, arith, subst, sym}
use Rattle.std.proofs.lemmas.Bool.{cases_lt}
use Rattle.topo_core.specs.Picture.{corner}
use Rattle.topo_core.proofs.Interface.{same_some}
use Rattle.topo_route.specs.Potentials.{IsOfGuide}
use Rattle.topo_route.proofs.plans.Tests.{before_all, before_past}
use Rattle.topo_route.proofs.guided.guide.Guide.to.Goals as goal
use Rattle.topo_route.proofs.guided.guide.Guide.to.Goals.{in-Some, in_default}

pub loop-position-preserved : goal.loop-position-preserved
loop-position-preserved g c p d less at =
    let named = g.W.FaceGraph.named c.args.graph.now in
    let face = g.W.FaceGraph.face_of c.args.graph.now in
    let of = λ (k : ℕ). g.W.FaceGraph.potentials c.args.graph.now (face k) in
    elim c.match-corner_at.branch [
      | in-Some w ↦ subst (λ q. IsOfGuide q (of (named.name d))) (sym w.guide-is) (elim (cases_lt p c.loop-position.position) [
        | inl early ↦ w.with-guide.ensures.others (of (named.name d)) (c.loop-position.invariant p d early at)
        | inr late ↦
            let here : p ≡ c.loop-position.position = omega arith in
            let is = w.in-Some.ensures in
            let one = same_some (corner named.rows c.args.u p) d _ at (ap (corner named.rows c.args.u) here ∙ is.1) in
            subst (λ k. IsOfGuide w.with-guide.result (of k)) (sym (ap named.name one ∙ is.0.is))
            (subst (λ f. IsOfGuide w.with-guide.result (g.W.FaceGraph.potentials c.args.graph.now f)) w.face_at.ensures.face
            (subst (λ f. IsOfGuide w.with-guide.result f) w.potentials.ensures w.with-guide.ensures.itself))
      ])
      | in_default w ↦ subst (λ q. IsOfGuide q (of (named.name d))) (sym w.guide-is)
          (before_past named.rows c.args.u (λ p d. IsOfGuide c.loop-position.guide (of (named.name d))) c.loop-position.position
          w.in_default.ensures c.loop-position.invariant p d less at)
    ]

pub returns : goal.returns
returns g c =
    let named = g.W.FaceGraph.named c.args.graph.now in
    let face = g.W.FaceGraph.face_of c.args.graph.now in
    let of = λ (k : ℕ). g.W.FaceGraph.potentials c.args.graph.now (face k) in
    let whole : c.loop-position.position ≡ c.degree-position-end.result = omega (arith, c.loop-position-test.false, c.loop-position.auto.position-end) in
    before_all named.rows c.args.u (λ p d. IsOfGuide c.loop-position.guide (of (named.name d))) c.loop-position.position (whole ∙ c.degree-position-end.ensures)
    c.loop-position.invariant
