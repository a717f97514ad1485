use Rattle.topo_kept_rows.proofs.rows.KeepingEdges.{edges_more}
use Rattle.topo_kept_rows.proofs.kept.edge_table.Goals as goal

pub loop-row-preserved : goal.loop-row-preserved
loop-row-preserved c = edges_more c.args.rows.now c.args.limit c.requires c.loop-row.row-index c.row-item.result c.loop-row.table
    c.skip_to.new.self c.push_copy.new.edges c.loop-row-test.true c.loop-row.invariant c.row-item.is
    c.skip_to.ensures.entries c.in_ok-skip_to.ensures.below c.in_ok-push_copy.ensures
