use Rattle.std.proofs.Common.{arith}
use Rattle.topo_rows.proofs.PairTests.{paths_over}
use Rattle.topo_rows.proofs.faults.are_paths_good.Goals as goal

pub returns : goal.returns
returns c = grind (arith, paths_over)
