use Rattle.std.proofs.Common.{◌≤◌, sym, ◌∙◌, ap, arith, ℕ, ◌-◌}
use Rattle.topo_map.proofs.Parts.{room_parts}
use Rattle.topo_map.proofs.segments.room.Goals as goal

pub returns-then-capacity-le-MAX_SEGMENTS : goal.returns-then-capacity-le-MAX_SEGMENTS
returns-then-capacity-le-MAX_SEGMENTS c =
    let narrow : c.segments.inside.rest.capacity ≤ 2147483647 = omega (arith, c.capacity-capacity.ensures.value, c.if-capacity-le-MAX_SEGMENTS.true) in
    ap (λ (n : ℕ). n - c.len.result) c.capacity-capacity.ensures.value ∙ ap (λ (n : ℕ). c.segments.inside.rest.capacity - n) c.len.ensures
    ∙ sym (room_parts c.segments.inside.walks.items c.segments.inside.rest c.segments.invariant c.segments.view_is narrow)
