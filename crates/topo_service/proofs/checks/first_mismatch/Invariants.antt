use Rattle.std.proofs.Common.{take, All}
use Rattle.topo_service.specs.Passes.{PassState}
use Rattle.topo_service.specs.Receipts.{AreFirst}
use Rattle.topo_service.proofs.checks.first_mismatch.Given as goal

abbrev pub invariant-loop-pass : goal.invariant-loop-pass
invariant-loop-pass g l = All (λ (p : PassState). AreFirst l.history p.number p.receipts) (take l.pass-index l.passes)
