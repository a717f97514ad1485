use Rattle.std.proofs.Common.{arith, length-set}
use Rattle.std.proofs.lemmas.List.{get_or_default}
use Rattle.topo_kept_rows.proofs.rows.CrossedPaths.{taken_back}
use Rattle.topo_kept_rows.proofs.rows.CrossedRows.{when_err}
use Rattle.topo_kept_rows.proofs.insertion.join_ends.Goals as goal

pub returns-then-is_err-clause-err : goal.returns-then-is_err-clause-err
returns-then-is_err-clause-err c = grind (arith, length-set, taken_back, get_or_default, when_err)
