use Rattle.std.proofs.Common.{take}
use Rattle.topo_service.specs.Receipts.{AreFound}
use Rattle.topo_service.proofs.checks.first_difference.Given as goal

abbrev pub invariant-loop-entry : goal.invariant-loop-entry
invariant-loop-entry l = AreFound (take l.entry-index l.history) l.number l.receipts l.k
