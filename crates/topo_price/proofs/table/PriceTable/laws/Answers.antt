use Rattle.std.proofs.Common.{subst}
use Rattle.topo_price.specs.Prices.{IsPromise, table_answers}
use Rattle.topo_price.proofs.Tables.{table_promise}
use Rattle.topo_price.proofs.table.PriceTable.laws.Goals as goal

pub returns : goal.returns
returns c = subst (λ entries. IsPromise (table_answers entries)) c.self.view_is (table_promise c.self.inside.prices c.self.invariant.1)
