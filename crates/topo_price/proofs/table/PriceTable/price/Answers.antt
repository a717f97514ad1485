use Rattle.topo_price.proofs.Tables.{price_in_range}
use Rattle.topo_price.proofs.table.PriceTable.price.Goals as goal

pub returns-clause-in_range : goal.returns-clause-in_range
returns-clause-in_range c = price_in_range c.self.inside.prices c.self.invariant.1 c.args.kind
