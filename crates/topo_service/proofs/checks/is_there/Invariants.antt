use Rattle.std.proofs.Common.{take}
use Rattle.topo_service.specs.Receipts.{HasNumber}
use Rattle.topo_service.proofs.checks.is_there.Given as goal

abbrev pub invariant-loop-pass : goal.invariant-loop-pass
invariant-loop-pass g l = HasNumber l.number (take l.pass-index l.passes) → ⊥
