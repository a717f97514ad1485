use Rattle.std.proofs.Common.{arith, subst, sym, ℕ, ◌∙◌}
use Rattle.topo_core.specs.Darts.{dart_twin}
use Rattle.topo_core.specs.Picture.{index_of}
use Rattle.topo_embedded.proofs.halves.FaceWalks.{few, start_alive, Turns, turns_alive, turns_few, turns_more, turns_none, turns_to}
use Rattle.topo_embedded.proofs.cuts.next_left.Goals as goal

pub face_next-next-requires : goal.face_next-next-requires
face_next-next-requires c = let (p, o, d, left) = c.requires in start_alive p c.args.segments.now c.args.e c.args.out c.args.path.now o d c.args.half left

pub loop-passed-init : goal.loop-passed-init
loop-passed-init c =
    λ p o d left. turns_none p c.args.segments.now c.args.e c.args.out c.args.path.now o d c.args.half left c.face_next-next.result
    c.face_next-next.ensures.next

pub is_out-requires : goal.is_out-requires
is_out-requires c =
    let (p, o, d, left) = c.requires in
    let at = c.loop-passed.invariant p o d left in
    (p, at.dart, record { opened = o; there = at.passes.here; named = at.named })

pub returns-then-not-is_out : goal.returns-then-not-is_out
returns-then-not-is_out c = λ p o d left.
    let at = c.loop-passed.invariant p o d left in (
      at.dart,
      turns_to p c.args.segments.now c.args.e c.args.out c.args.path.now o d c.args.half left c.loop-passed.next c.loop-passed._passed at
          (sym (c.is_out.ensures p at.dart (record { opened = o; there = at.passes.here; named = at.named })) ∙ c.if-not-is_out.true),
    )

pub turn-next-requires : goal.turn-next-requires
turn-next-requires c =
    let (p, o, d, left) = c.requires in
    turns_alive p c.args.segments.now c.args.e c.args.out c.args.path.now o d c.args.half left c.loop-passed.next c.loop-passed._passed
    (c.loop-passed.invariant p o d left)

pub loop-passed-preserved : goal.loop-passed-preserved
loop-passed-preserved c = λ p o d left.
    let at = c.loop-passed.invariant p o d left in
    let more = turns_more p c.args.segments.now c.args.e c.args.out c.args.path.now o d c.args.half left c.loop-passed.next c.loop-passed._passed at
    c.turn-next.result c.turn-next.ensures.turn
    (sym (c.is_out.ensures p at.dart (record { opened = o; there = at.passes.here; named = at.named })) ∙ c.if-not-is_out.false) in
    subst (λ (n : ℕ). Turns p c.args.segments.now c.args.e c.args.out c.args.path.now o (index_of p.rows (dart_twin d)) c.turn-next.result n) (omega arith) more

pub returns : goal.returns
returns c = λ p o d left.
    absurd (turns_few p c.args.segments.now c.args.e c.args.out c.args.path.now o d c.args.half left c.loop-passed.next c.loop-passed._passed
    (c.loop-passed.invariant p o d left)
    (let less = few p c.args.segments.now c.args.e c.args.out c.args.path.now o in let end = c.loop-passed-test.false in omega (arith, less, end)))
