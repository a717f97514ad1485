use Rattle.std.proofs.Common.{◌≡◌, ◌≤◌, ℕ, refl, arith, subst, length}
use Rattle.slab.specs.Slab.{slab_len}
use Rattle.topo_map.specs.Segments.{joined, room_of}
use Rattle.topo_map.proofs.Parts.{count_parts, gives_room, same_parts}
use Rattle.topo_map.proofs.segments.reserve.Goals as goal

pub returns-in_err-extend-clause-slots : goal.returns-in_err-extend-clause-slots
returns-in_err-extend-clause-slots c =
    same_parts c.segments.inside.walks.items c.segments.inside.rest c.extend.new.walks.items c.segments.inside.rest.slots
    c.segments.invariant c.segments.view_is refl c.extend.ensures.longer c.extend.ensures.same

-- what would pass the bound was refused before
pub returns-in_err-extend-clause-bounded : goal.returns-in_err-extend-clause-bounded
returns-in_err-extend-clause-bounded c most =
    let same : slab_len c.args.segments.now ≡ slab_len c.segments.inside.rest =
    count_parts c.segments.inside.walks.items c.segments.inside.rest c.segments.invariant c.segments.view_is in
    absurd (omega (arith, most, same, c.len.ensures, c.saturating_sub.ensures, c.if-saturating_sub-more.false))

pub returns-clause-slots : goal.returns-clause-slots
returns-clause-slots c = same_parts c.segments.inside.walks.items c.segments.inside.rest c.extend.new.walks.items
    c.in_ok-rest.rest.slots c.segments.invariant c.segments.view_is c.in_ok-rest.ensures.slots
    c.extend.ensures.longer c.extend.ensures.same

room : (c : goal.After-drop-segments-inside) → c.args.more ≤ room_of (joined c.extend.new.walks.items c.in_ok-rest.rest)
room c = gives_room c.extend.new.walks.items c.in_ok-rest.rest
    (c.in_ok-rest.ensures.within, subst (λ (n : ℕ). n ≤ length c.extend.new.walks.items) c.capacity.ensures.value c.in_ok-extend.ensures.places)
    c.in_ok-rest.ensures.slots c.in_ok-rest.ensures.room c.in_ok-rest.ensures.narrow

pub returns-clause-room : goal.returns-clause-room
returns-clause-room c = room c

pub returns-clause-never_less : goal.returns-clause-never_less
returns-clause-never_less c = omega (arith, room c, c.room.ensures, c.if-more-room.false)

pub returns-clause-bounded : goal.returns-clause-bounded
returns-clause-bounded c most =
    let same : slab_len c.args.segments.now ≡ slab_len c.segments.inside.rest =
    count_parts c.segments.inside.walks.items c.segments.inside.rest c.segments.invariant c.segments.view_is in
    absurd (omega (arith, most, same, c.len.ensures, c.saturating_sub.ensures, c.if-saturating_sub-more.false))
