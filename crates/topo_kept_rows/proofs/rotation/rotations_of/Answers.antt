use Rattle.std.proofs.Common.{◌∙◌}
use Rattle.topo_kept_rows.proofs.rows.Copying.{one_more}
use Rattle.topo_kept_rows.proofs.rotation.rotations_of.Goals as goal

pub loop-list-preserved : goal.loop-list-preserved
loop-list-preserved c = one_more c.loop-list.rotations.items c.push.new.self.items c.args.lists.now c.loop-list.list-index
    c.whole.result c.list-item.result c.loop-list-test.true c.loop-list.invariant
    c.in_ok-push.ensures.items (c.whole.ensures ∙ c.in_ok-ids.ensures.items ∙ c.as_slice.ensures) c.list-item.is
