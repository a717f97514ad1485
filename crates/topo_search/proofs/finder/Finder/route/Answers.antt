use Rattle.topo_core.proofs.Interface.{least_is_simple}
use Rattle.topo_price.specs.Prices.{prices_of}
use Rattle.topo_search.proofs.finder.Finder.route.Goals as goal

pub returns : goal.returns
returns g c =
    let price = prices_of (g.F.PriceFn.may_return c.args.tariff.now) in
    let first = rw (c.in-Some.is, c.embedded.ensures) at c.in-Ok.ensures in
    least_is_simple price c.keeps_promise.ensures c.args.picture.now.rows c.kept_rows.ensures.lawful.lawful.embedding.well_formed
    c.args.u c.args.v c.in-Some.first.route c.in-Some.first.price first.is_least
