use Rattle.std.proofs.Common.{◌≡◌, ◌<◌, sym, arith}
use Rattle.std.proofs.lemmas.Bool.{eqb-true}
use Rattle.topo_map.specs.Rotation.{half_limit}
use Rattle.topo_map.proofs.Stored.{limit-is}
use Rattle.topo_map.proofs.Steps.{live_twin}
use Rattle.topo_map.proofs.Walked.{painted_live, painted_start, painted_on, painted_all, painted_end}
use Rattle.topo_map.proofs.faces.paint.Goals as goal

pub loop-steps-init : goal.loop-steps-init
loop-steps-init c = record { walked = painted_start c.args.segments.now c.args.start c.args.label c.requires.live }

pub set_face-requires : goal.set_face-requires
set_face-requires c =
    painted_live c.args.segments.now c.loop-steps.segments _ c.loop-steps.at c.loop-steps.invariant.walked.painted c.loop-steps.invariant.walked.live

pub next-at-requires : goal.next-at-requires
next-at-requires c = painted_live c.loop-steps.segments c.set_face.new.segments _ c.twin.result c.set_face.ensures
    (painted_live c.args.segments.now c.loop-steps.segments _ c.twin.result c.loop-steps.invariant.walked.painted
    (live_twin c.args.segments.now c.loop-steps.at c.twin.result c.twin.ensures c.loop-steps.invariant.walked.live))

pub loop-steps-preserved : goal.loop-steps-preserved
loop-steps-preserved c = record {
  walked = painted_on c.twin.result c.next-at.result c.requires.kept
      c.loop-steps.invariant.walked c.set_face.ensures c.twin.ensures c.next-at.ensures;
}

pub returns-then-eq : goal.returns-then-eq
returns-then-eq c =
    let l : half_limit ≡ 4294967294 = limit-is in
    let below : c.loop-steps._steps < half_limit = omega arith in
    painted_all c.args.segments.now c.set_face.new.segments c.loop-steps._steps c.args.start c.args.label c.next-at.result below
    (painted_on c.twin.result c.next-at.result c.requires.kept
    c.loop-steps.invariant.walked c.set_face.ensures c.twin.ensures c.next-at.ensures)
    (eqb-true _ _ (sym c.if-eq.ensures))

pub returns : goal.returns
returns c = grind (arith, limit-is, painted_end)
