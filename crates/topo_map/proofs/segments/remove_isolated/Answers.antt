use Rattle.std.proofs.Common.{sym, arith, slice_index_or}
use Rattle.topo_map.specs.Segments.{joined, whole}
use Rattle.topo_map.proofs.Parts.{some_walk, taken_out, walk_at}
use Rattle.topo_map.proofs.Stored.{IsGoneAt, faces_left, labels_left, removed}
use Rattle.topo_map.proofs.segments.remove_isolated.Goals as goal

pub remove-requires : goal.remove-requires
remove-requires c = (walk_at c.key.result c.args.x some_walk c.segments.invariant c.segments.view_is c.key.ensures c.requires.live).contains

gone_at : (c : goal.After-capacity) → IsGoneAt c.args.segments.now (joined c.segments.inside.walks.items c.remove.new.self) c.key.result
    (whole (slice_index_or c.segments.inside.walks.items c.key.result some_walk) c.remove.result)
gone_at c = taken_out c.segments.inside.walks.items c.remove.new.self c.key.result c.segments.invariant c.segments.view_is
    (omega (arith, c.capacity.ensures.slots, c.capacity.ensures.value)) c.remove.ensures.value c.remove.ensures.updates c.remove.ensures.len
    c.remove.ensures.capacity

pub returns-clause-removed : goal.returns-clause-removed
returns-clause-removed c = removed c.args.segments.now _ c.key.result c.args.x _ c.requires.kept c.requires.alone c.requires.twin_alone (gone_at c)
    (sym c.key.ensures)

pub returns-clause-labels : goal.returns-clause-labels
returns-clause-labels c = labels_left c.args.segments.now _ c.key.result _ (gone_at c)

pub returns-clause-faces : goal.returns-clause-faces
returns-clause-faces c = faces_left c.args.segments.now _ c.key.result _ (gone_at c)
