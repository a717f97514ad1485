use Rattle.std.proofs.Common.{arith}
use Rattle.topo_kept_rows.proofs.rows.KeepingEdges.{edge_kept}
use Rattle.topo_kept_rows.proofs.kept.KeptRows.edge.Goals as goal

pub returns : goal.returns
returns c = grind (arith, edge_kept)
