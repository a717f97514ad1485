use Rattle.std.proofs.Common.{ℕ, ◌<◌}
use Rattle.topo_service.specs.Receipts.{HasNumber}
use Rattle.topo_service.proofs.checks.first_missing.Given as goal

abbrev pub invariant-loop-number : goal.invariant-loop-number
invariant-loop-number g l = (n : ℕ) → n < l.number → HasNumber n l.passes
