use Rattle.std.proofs.Common.{◌∙◌}
use Rattle.topo_kept_rows.proofs.rows.Copying.{one_more}
use Rattle.topo_kept_rows.proofs.rotation.listed_rotations.Goals as goal

pub loop-rotation-preserved : goal.loop-rotation-preserved
loop-rotation-preserved c = one_more c.loop-rotation.lists.items c.push.new.self.items c.args.rotations.now c.loop-rotation.rotation-index
    c.from_vec.result c.rotation-item.result c.loop-rotation-test.true c.loop-rotation.invariant
    c.in_ok-push.ensures.items (c.from_vec.ensures ∙ c.in_ok-ids.ensures) c.rotation-item.is
