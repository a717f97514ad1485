use Rattle.std.proofs.Common.{◌∙◌, arith}
use Rattle.topo_kept_rows.proofs.rows.Keeping.{out_all, out_more, out_none}
use Rattle.topo_kept_rows.proofs.deletion.delete_crossings.Goals as goal

pub loop-x-init : goal.loop-x-init
loop-x-init c = out_none c.args.crossings.now c.args.path.now

pub loop-x-preserved : goal.loop-x-preserved
loop-x-preserved c = out_more c.args.crossings.now c.args.path.now c.loop-x.x-index c.loop-x.crossings c.remove.new.self c.loop-x-test.true c.loop-x.invariant
    c.remove.ensures.entries c.remove.ensures.below

pub returns-clause-entries : goal.returns-clause-entries
returns-clause-entries c = c.close_up.ensures.entries ∙
    out_all c.args.crossings.now c.args.path.now c.loop-x.x-index c.loop-x.crossings (omega (arith, c.loop-x-test.false)) c.loop-x.invariant
