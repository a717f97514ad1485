use Rattle.topo_core.proofs.numbering.NumberOrder.{order_through, order_total}
use Rattle.topo_core.proofs.laws.dart_order_is_total.Goals as goal

pub returns : goal.returns
returns c = record { total = order_total; transitive = order_through }
