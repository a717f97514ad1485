use Rattle.std.proofs.Common.{arith}
use Rattle.std.proofs.lemmas.List.{same_lists}
use Rattle.topo_core.proofs.equality.same_edges.Goals as goal

pub returns : goal.returns
returns c = grind (arith, same_lists)
