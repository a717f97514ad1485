use Rattle.std.proofs.Common.{arith}
use Rattle.topo_dual.proofs.HalfNumbers.{written_more}
use Rattle.topo_dual.proofs.lists.write_numbers.Goals as goal

pub loop-number-preserved : goal.loop-number-preserved
loop-number-preserved c = grind (arith, written_more)
