use Rattle.std.proofs.Common.{◌∙◌}
use Rattle.topo_core.specs.declared.rows.EdgeRow.{EdgeRow}
use Rattle.topo_renumbering.specs.Renumbering.{edge_named}
use Rattle.topo_renumbering.proofs.Renaming.{one_named, one_numbered}
use Rattle.topo_renumbering.proofs.renamed_edges.Goals as goal

pub loop-place-preserved : goal.loop-place-preserved
loop-place-preserved c =
    let is = rw c.in-Some.is at c.in_ok-edge.ensures in
    rw c.in_ok-push.ensures.items record {
      named = one_named (edge_named c.args.ids.now) c.loop-place.new.items c.args.old.now c.loop-place.place c.in-Some.edge _ c.loop-place-test.true c.loop-place.invariant.named (is.0 ∙ c.index-old-place.is);
      closed_up = one_numbered (λ (e : EdgeRow). e.id) c.loop-place.new.items c.loop-place.place c.in-Some.edge c.loop-place.invariant.closed_up is.1;
    }
