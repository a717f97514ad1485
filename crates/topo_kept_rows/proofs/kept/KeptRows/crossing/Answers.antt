use Rattle.std.proofs.Common.{arith}
use Rattle.topo_kept_rows.proofs.rows.Keeping.{row_kept}
use Rattle.topo_kept_rows.proofs.kept.KeptRows.crossing.Goals as goal

pub returns-in_err-crossing : goal.returns-in_err-crossing
returns-in_err-crossing c = grind (arith, row_kept)

pub returns : goal.returns
returns c = grind (arith, row_kept)
