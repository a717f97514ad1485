use Rattle.std.proofs.Common.{arith}
use Rattle.topo_kept_rows.proofs.rows.CrossedPaths.{ends_within}
use Rattle.topo_kept_rows.proofs.insertion.cross_path.Goals as goal

pub insert-requires : goal.insert-requires
insert-requires c = grind (arith, ends_within)
