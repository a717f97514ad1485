use Rattle.std.proofs.Common.{◌≡◌, ◌<◌, ◌≤◌, List, ℕ, sym, ◌∙◌, ap, subst, length, slice_index_or}
use Rattle.topo_map.specs.Segments.{joined, room_of}
use Rattle.topo_map.specs.declared.segments.Walk.{Walk}
use Rattle.topo_map.proofs.Parts.{gives_room, same_parts, same_walks}
use Rattle.topo_map.proofs.segments.copy.Goals as goal

pub returns-clause-slots : goal.returns-clause-slots
returns-clause-slots c =
    let walks : c.in_ok-walks.walks.items ≡ c.segments.inside.walks.items =
    same_walks c.segments.inside.walks.items c.in_ok-walks.walks.items c.in_ok-walks.ensures.cases.0 in
    same_parts c.segments.inside.walks.items c.segments.inside.rest c.extend.new.walks.items c.in_ok-rest.rest.slots
    c.segments.invariant c.segments.view_is c.in_ok-rest.ensures.slots
    (subst (λ (l : List Walk). length l ≤ length c.extend.new.walks.items) walks c.extend.ensures.longer)
    (λ k w h. c.extend.ensures.same k w (subst (λ (l : List Walk). k < length l) (sym walks) h) ∙ ap (λ (l : List Walk). slice_index_or l k w) walks)

pub returns-clause-room : goal.returns-clause-room
returns-clause-room c = subst (λ (n : ℕ). n ≤ room_of (joined c.extend.new.walks.items c.in_ok-rest.rest)) c.room.ensures
    (gives_room c.extend.new.walks.items c.in_ok-rest.rest
    (c.in_ok-rest.ensures.within, subst (λ (n : ℕ). n ≤ length c.extend.new.walks.items) c.capacity.ensures.value c.in_ok-extend.ensures.places)
    c.in_ok-rest.ensures.slots c.in_ok-rest.ensures.room c.in_ok-rest.ensures.narrow)
