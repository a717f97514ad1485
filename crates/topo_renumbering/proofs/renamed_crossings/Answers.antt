use Rattle.topo_core.specs.declared.rows.CrossRow.{CrossRow}
use Rattle.topo_renumbering.specs.Renumbering.{cross_named}
use Rattle.topo_renumbering.proofs.Renaming.{one_named, one_numbered}
use Rattle.topo_renumbering.proofs.renamed_crossings.Goals as goal

pub loop-place-preserved : goal.loop-place-preserved
loop-place-preserved c =
    let is = c.in-Some.ensures in
    rw c.in_ok-push.ensures.items record {
      named = one_named (cross_named c.args.ids.now) c.loop-place.new.items c.args.old.now c.loop-place.place c.in-Some.crossing _ c.loop-place-test.true c.loop-place.invariant.named is.0;
      closed_up = one_numbered (λ (x : CrossRow). x.id) c.loop-place.new.items c.loop-place.place c.in-Some.crossing c.loop-place.invariant.closed_up is.1;
    }
