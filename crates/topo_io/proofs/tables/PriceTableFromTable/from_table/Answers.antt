use Rattle.topo_io.proofs.Pricing.{own_prices}
use Rattle.topo_io.proofs.tables.PriceTableFromTable.from_table.Goals as goal

pub returns-clause-own : goal.returns-clause-own
returns-clause-own c = λ prices is. own_prices _ prices c.args.table is (λ facts n h. h) (λ facts n h. h)
