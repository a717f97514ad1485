use Rattle.topo_core.proofs.numbering.NumberOrder.{number_order, order_number}
use Rattle.topo_core.proofs.laws.numbers_keep_order.Goals as goal

pub returns : goal.returns
returns c rows good d e d_in e_in = (λ less. (number_order rows good.paths d e d_in e_in less).0, order_number rows good.paths d e d_in e_in)
