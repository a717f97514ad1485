use Rattle.std.proofs.Common.{arith}
use Rattle.topo_core.proofs.numbering.Renumbering.{darts_connected, numbers_connected}
use Rattle.topo_core.proofs.laws.numbers_keep_connection.Goals as goal

pub returns : goal.returns
returns c rows good = grind (arith, numbers_connected, darts_connected)
