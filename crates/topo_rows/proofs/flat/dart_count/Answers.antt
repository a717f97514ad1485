use Rattle.std.proofs.Common.{arith}
use Rattle.topo_rows.proofs.Begins.{begins_last, begins_length}
use Rattle.topo_rows.proofs.flat.dart_count.Goals as goal

pub bounds-begins-last : goal.bounds-begins-last
bounds-begins-last c = grind (arith, begins_length)

pub returns : goal.returns
returns c = grind (arith, begins_last)
