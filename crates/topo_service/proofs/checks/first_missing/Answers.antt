use Rattle.std.proofs.Common.{below_more, ℕ}
use Rattle.topo_service.specs.Receipts.{HasNumber}
use Rattle.topo_service.proofs.checks.first_missing.Goals as goal

pub loop-number-preserved : goal.loop-number-preserved
loop-number-preserved g c = let P : ℕ → Type 0 = λ n. HasNumber n c.args.passes.now in
    below_more P c.loop-number.number c.loop-number.invariant (c.is_there.ensures.yes c.if-not-is_there.false)
