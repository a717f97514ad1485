use Rattle.std.proofs.Common.{arith}
use Rattle.topo_rows.proofs.Finding.{placed_read}
use Rattle.topo_rows.proofs.by_id.row_place.Goals as goal

pub returns-then-id : goal.returns-then-id
returns-then-id g c = grind (arith, placed_read)
