use Rattle.std.proofs.Common.{◌≡◌, ◌<◌, ap, arith, below_more, is_some, length, subst, sym, true, ℕ, ◌∙◌}
use Rattle.std.proofs.lemmas.Bool.{false≢true}
use Rattle.topo_core.specs.Changes.{HasOneFace}
use Rattle.topo_core.specs.Cycles.{SameCycle}
use Rattle.topo_core.specs.Rotations.{face_next}
use Rattle.topo_map.specs.Rotation.{is_live, turn}
use Rattle.topo_embedded.proofs.halves.FaceWalks.{first_face, first_live, first_twin_live, opened_to, path_few, path_is}
use Rattle.topo_embedded.proofs.cuts.first_cut.Goals as goal

pub at-first-requires : goal.at-first-requires
at-first-requires c = let (p, o) = c.requires in omega (arith, path_is p c.args.segments.now c.args.e 0 c.args.path.now o)

pub same_face-requires-clause-live : goal.same_face-requires-clause-live
same_face-requires-clause-live c = let (p, o) = c.requires in first_live p c.args.segments.now c.args.e c.args.path.now o c.at-first.result c.at-first.ensures

pub same_face-requires-clause-live_other : goal.same_face-requires-clause-live_other
same_face-requires-clause-live_other c =
    let (p, o) = c.requires in
    subst (λ (h : ℕ). is_live c.args.segments.now h ≡ true) (sym c.twin.ensures)
    (first_twin_live p c.args.segments.now c.args.e c.args.path.now o c.at-first.result c.at-first.ensures)

pub returns-then-same_face : goal.returns-then-same_face
returns-then-same_face c = λ p o.
    record {
      there = ap is_some o.there;
      on_path = omega arith;
      one_face = (first_face p c.args.segments.now c.args.e c.args.path.now o c.at-first.result c.at-first.ensures).0
          (subst (λ (h : ℕ). SameCycle (face_next (turn c.args.segments.now)) c.at-first.result h) c.twin.ensures (c.same_face.ensures.0 c.if-same_face.true));
      two_faces_before = λ j none one. absurd (omega (arith, none));
    }

pub loop-segment-init : goal.loop-segment-init
loop-segment-init c = λ p o j few one.
    let start : j ≡ 0 = omega (arith, few) in
    let together = (first_face p c.args.segments.now c.args.e c.args.path.now o c.at-first.result c.at-first.ensures).1
    (subst (HasOneFace p.rows c.args.e) start one) in
    false≢true (sym c.if-same_face.false
    ∙ c.same_face.ensures.1 (subst (λ (h : ℕ). SameCycle (face_next (turn c.args.segments.now)) c.at-first.result h) (sym c.twin.ensures) together))

pub has_one_face-requires : goal.has_one_face-requires
has_one_face-requires c = let (p, o) = c.requires in (
  p,
  opened_to p c.args.segments.now c.args.e 0 c.args.path.now o c.loop-segment.segment (omega (arith, c.loop-segment-test.true, c.len-segment-end.ensures.len)),
)

pub overflow_cast-result : goal.overflow_cast-result
overflow_cast-result c = grind (arith, path_few)

pub returns-then-has_one_face : goal.returns-then-has_one_face
returns-then-has_one_face c = λ p o.
    let inside : c.loop-segment.segment < length c.args.path.now = omega (arith, c.loop-segment-test.true, c.len-segment-end.ensures.len) in
    record {
      there = ap is_some o.there;
      on_path = omega (arith, inside, path_is p c.args.segments.now c.args.e 0 c.args.path.now o);
      one_face = (c.has_one_face.ensures p (opened_to p c.args.segments.now c.args.e 0 c.args.path.now o c.loop-segment.segment inside)).0
          c.if-has_one_face.true;
      two_faces_before = c.loop-segment.invariant p o;
    }

pub loop-segment-preserved : goal.loop-segment-preserved
loop-segment-preserved c = λ p o.
    below_more _ _ (c.loop-segment.invariant p o)
    (λ face. false≢true (sym c.if-has_one_face.false
    ∙ (c.has_one_face.ensures p (opened_to p c.args.segments.now c.args.e 0 c.args.path.now o c.loop-segment.segment
    (omega (arith, c.loop-segment-test.true, c.len-segment-end.ensures.len)))).1 face))

pub returns : goal.returns
returns c = λ p o i inside. c.loop-segment.invariant p o i
    (omega (arith, path_is p c.args.segments.now c.args.e 0 c.args.path.now o, inside, c.loop-segment-test.false, c.len-segment-end.ensures.len))
