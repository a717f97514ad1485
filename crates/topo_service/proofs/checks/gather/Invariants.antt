use Rattle.std.proofs.Common.{◌≡◌, ◌+◌, ◌<◌, ◌≤◌, length, All}
use Rattle.topo_core.specs.History.{IsPrefix, versions}
use Rattle.topo_service.specs.Passes.{PassState}
use Rattle.topo_service.specs.Receipts.{receipt_count}
use Rattle.topo_service.proofs.checks.gather.Given as goal

abbrev pub invariant-loop-pass : goal.invariant-loop-pass
invariant-loop-pass g l =
    (l.rest.parts ≡ l.fn.rest.parts + length l.yielded) × (l.rest.amount ≡ l.fn.rest.amount + receipt_count l.yielded)
    × (0 < length l.yielded → l.rest.parts ≤ g.K.Ledger.parts)
    × All (λ (p : PassState). IsPrefix p.seen (versions l.state.history)) l.yielded
