use Rattle.topo_core.proofs.Interface.{least_is_simple}
use Rattle.topo_rows.specs.Recovering.{lawful_again}
use Rattle.topo_price.specs.Prices.{prices_of}
use Rattle.topo_refusals.proofs.pictures.pass.Goals as goal

-- a first route is a least one, which meets no face twice
pub returns : goal.returns
returns g c =
    let lawful = lawful_again c.args.frozen.now.rows c.args.frozen.now.lawful in
    least_is_simple (prices_of (g.F.PriceFn.may_return c.args.tariff.now)) c.keeps_promise.ensures c.args.frozen.now.rows lawful.embedding.well_formed
    c.args.u c.args.v c.args.plan.now.route c.args.plan.now.price c.in-Ok.ensures.first.is_least
