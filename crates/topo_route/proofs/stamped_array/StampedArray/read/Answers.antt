use Rattle.std.proofs.Common.{arith}
use Rattle.std.proofs.lemmas.Grind.{get_or_default_zero}
use Rattle.topo_route.proofs.spreading.Blank.{all_long, read_at, reads_beside, reads_number}
use Rattle.topo_route.proofs.stamped_array.StampedArray.read.Goals as goal

pub index-requires : goal.index-requires
index-requires c = grind (arith, all_long)

pub overflow_sub-number : goal.overflow_sub-number
overflow_sub-number c = grind (arith, all_long, get_or_default_zero, c.self.invariant.0.above)

pub returns-then-number-self : goal.returns-then-number-self
returns-then-number-self c = grind (arith, all_long, get_or_default_zero, reads_number, read_at)

pub returns-else-number-self : goal.returns-else-number-self
returns-else-number-self c = grind (arith, all_long, get_or_default_zero, reads_beside, read_at)
