use Rattle.std.proofs.Common.{ap, get_or, min, sym, ◌∙◌}
use Rattle.std.proofs.lemmas.List.Sums.{fold_more}
use Rattle.topo_kept_rows.proofs.rotation.least_of.Goals as goal

pub loop-id-preserved : goal.loop-id-preserved
loop-id-preserved c = c.min-least.ensures ∙ ap (λ n. min n (get_or c.args.ids.now c.loop-id.id-index 0)) c.loop-id.invariant
    ∙ sym (fold_more min c.args.first c.args.ids.now c.loop-id.id-index 0 c.loop-id-test.true)
