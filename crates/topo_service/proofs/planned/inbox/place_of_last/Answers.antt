use Rattle.std.proofs.Common.{arith}
use Rattle.topo_service.proofs.planned.inbox.place_of_last.Goals as goal

pub returns-clause-count : goal.returns-clause-count
returns-clause-count c = omega (arith, c.loop-left.invariant.1, c.loop-left-test.false)
