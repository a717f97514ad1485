use Rattle.topo_price.specs.Prices.{prices_of}
use Rattle.topo_route.specs.Numbers.{dart_of}
use Rattle.topo_route.proofs.plans.Verdicts.{comes_first_by}
use Rattle.topo_route.proofs.walks.comes_first.Goals as goal

pub returns-in-Some : goal.returns-in-Some
returns-in-Some g c =
    let rows = g.D.Dual.shows c.args.dual.now in
    comes_first_by (prices_of (g.F.PriceFn.may_return c.args.tariff.now)) rows c.args.u c.args.v c.args.plan.now (dart_of rows c.args.from)
    (dart_of rows c.in-Some.last)
    c.has_first_end.result c.as_slice-heights.ensures c.as_slice.ensures c.in-Some.ensures.1
    (c.has_first_start.ensures.0 c.if-not-has_first_start.false) c.in-Some.ensures.2 c.has_first_end.ensures
