use Rattle.std.proofs.Common.{arith}
use Rattle.topo_core.proofs.numbering.Counting.{one}
use Rattle.topo_core.proofs.numbering.Standing.{is_dart_of_rows, listed_once, listed_test, of_rows_is_dart, stands_once}
use Rattle.topo_core.proofs.laws.darts_stand_once.Goals as goal

pub returns : goal.returns
returns c rows good d =
    let test = listed_test rows good.paths d in
    grind (arith, stands_once, one, listed_once, is_dart_of_rows, of_rows_is_dart)
