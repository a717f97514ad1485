use Rattle.std.proofs.Common.{arith}
use Rattle.topo_perm.proofs.permutations.Lists.{cycles_of-swap_together}
use Rattle.topo_perm.proofs.laws.bypass.Goals as goal

pub returns-clause-splits : goal.returns-clause-splits
returns-clause-splits c moved = grind (arith, cycles_of-swap_together)
