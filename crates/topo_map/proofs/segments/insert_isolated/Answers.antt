use Rattle.std.proofs.Common.{sym, arith, slice_set}
use Rattle.slab.specs.Slab.{with_value}
use Rattle.topo_map.specs.Segments.{joined}
use Rattle.topo_map.proofs.Parts.{room_left, stored}
use Rattle.topo_map.proofs.Stored.{IsNewAt, faces_stored, inserted, label_stored}
use Rattle.topo_map.proofs.segments.insert_isolated.Goals as goal

pub insert_reserved-key-requires : goal.insert_reserved-key-requires
insert_reserved-key-requires c = room_left c.segments.inside.walks.items c.segments.inside.rest c.segments.invariant c.segments.view_is c.requires.room

new_at : (c : goal.After-forward) → IsNewAt c.args.segments.now
    (joined (slice_set c.segments.inside.walks.items c.insert_reserved-key.result c.isolated-walk.result.walk)
    (with_value c.insert_reserved-key.new.self c.insert_reserved-key.result c.isolated-walk.result.rest))
    c.insert_reserved-key.result c.args.edge c.args.left c.args.right
new_at c = stored c.segments.inside.walks.items c.args.edge c.args.left c.args.right c.isolated-walk.result c.segments.invariant c.segments.view_is
    c.isolated-walk.ensures (omega (arith, c.capacity.ensures.slots, c.capacity.ensures.value)) c.insert_reserved-key.ensures.was_vacant
    c.insert_reserved-key.ensures.updates c.insert_reserved-key.ensures.len c.insert_reserved-key.ensures.capacity
    c.insert_reserved-key.ensures.key_in_range

pub returns-clause-inserted : goal.returns-clause-inserted
returns-clause-inserted c = inserted c.forward.result c.requires.kept c.requires.room (new_at c) (sym c.forward.ensures)

pub returns-clause-label : goal.returns-clause-label
returns-clause-label c = label_stored c.args.segments.now _ c.insert_reserved-key.result c.args.edge c.args.left c.args.right c.forward.result (new_at c)
    (sym c.forward.ensures)

pub returns-clause-faces : goal.returns-clause-faces
returns-clause-faces c = faces_stored c.args.segments.now _ c.insert_reserved-key.result c.args.edge c.args.left c.args.right c.forward.result (new_at c)
    (sym c.forward.ensures)
