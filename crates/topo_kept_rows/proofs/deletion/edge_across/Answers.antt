use Rattle.std.proofs.Common.{arith}
use Rattle.topo_kept_rows.proofs.rows.Keeping.{none_kept, other_kept}
use Rattle.topo_kept_rows.proofs.deletion.edge_across.Goals as goal

pub unreachable-requires : goal.unreachable-requires
unreachable-requires c = grind (arith, none_kept)

pub returns : goal.returns
returns c = grind (arith, other_kept)
