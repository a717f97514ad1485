use Rattle.std.proofs.Common.{arith}
use Rattle.std.proofs.lemmas.Grind.{get_or_default_zero}
use Rattle.std.proofs.lemmas.List.{get_or_past}
use Rattle.topo_route.proofs.spreading.Blank.{all_long}
use Rattle.topo_route.proofs.stamped_array.StampedArray.number_at.Goals as goal

pub read-requires : goal.read-requires
read-requires c = grind (arith, all_long)

pub returns-then-place-self : goal.returns-then-place-self
returns-then-place-self c = grind (arith, all_long, get_or_default_zero)

pub returns-else-place-self : goal.returns-else-place-self
returns-else-place-self c = grind (arith, all_long, get_or_past)
