use Rattle.std.proofs.Common.{arith}
use Rattle.std.proofs.lemmas.Grind.{get_or_default_zero}
use Rattle.topo_route.proofs.spreading.Blank.{all_long, read_at, reads_beside, reads_number}
use Rattle.topo_route.proofs.stamped_array.StampedArray.is_above.Goals as goal

pub index-requires : goal.index-requires
index-requires c = grind (arith, all_long)

pub overflow_sub-there : goal.overflow_sub-there
overflow_sub-there c = grind (arith, all_long, get_or_default_zero, c.self.invariant.0.above)

pub returns-then-there-self : goal.returns-then-there-self
returns-then-there-self c = grind (arith, all_long, get_or_default_zero, reads_number, read_at)

pub returns-else-there-self : goal.returns-else-there-self
returns-else-there-self c = grind (arith, all_long, get_or_default_zero, reads_beside, read_at)
