use Rattle.std.proofs.Common.{◌≡◌, drop, replicate}
use Rattle.topo_test_support.specs.Tables.{entered}
use Rattle.topo_test_support.proofs.prices.table_of.Given as goal

abbrev pub invariant-loop-entry : goal.invariant-loop-entry
invariant-loop-entry l = entered l.prices (drop l.entry-index l.entries) ≡ entered (replicate 64 l.fn.rest) l.entries
