use Rattle.std.proofs.Common.{arith}
use Rattle.std.proofs.lemmas.List.{take_all}
use Rattle.topo_kept_rows.proofs.rows.Keeping.{noted_all, noted_below, noted_more}
use Rattle.topo_kept_rows.proofs.kept.table_of.Goals as goal

pub push-requires-clause-last : goal.push-requires-clause-last
push-requires-clause-last c =
    noted_below c.args.rows.now c.args.limit c.requires c.loop-row.row-index _ c.loop-row.table c.loop-row-test.true c.loop-row.invariant

pub loop-row-preserved : goal.loop-row-preserved
loop-row-preserved c = noted_more c.args.rows.now c.args.limit c.requires c.loop-row.row-index _ c.loop-row.table c.push.new.self c.loop-row-test.true
    c.loop-row.invariant c.push.ensures.slots c.push.ensures.room

pub returns-clause-rows : goal.returns-clause-rows
returns-clause-rows c = grind (arith, take_all)

pub returns-clause-below : goal.returns-clause-below
returns-clause-below c =
    noted_all c.args.rows.now c.args.limit c.requires c.loop-row.row-index c.loop-row.table (omega (arith, c.loop-row-test.false)) c.loop-row.invariant
