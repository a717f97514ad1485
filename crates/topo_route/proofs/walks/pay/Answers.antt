use Rattle.std.proofs.Common.{arith}
use Rattle.topo_core.proofs.Interface.{single_price}
use Rattle.topo_price.specs.Prices.{prices_of}
use Rattle.topo_route.specs.Numbers.{dart_of}
use Rattle.topo_route.proofs.walks.pay.Goals as goal

pub returns-then-price-left : goal.returns-then-price-left
returns-then-price-left g c =
    let rows = g.D.Dual.shows c.args.dual.now in
    let price = prices_of (g.F.PriceFn.may_return c.args.tariff.now) in
    record {
      cost = c.in-Some.price;
      asked = c.in-Some.ensures.price;
      single = λ other asked. single_price price rows c.in-Some.ensures.promise (dart_of rows c.args.number)
          other c.in-Some.price asked c.in-Some.ensures.price;
      sum = omega arith;
    }

pub returns-else-price-left : goal.returns-else-price-left
returns-else-price-left g c p asked low =
    let rows = g.D.Dual.shows c.args.dual.now in
    let same = single_price (prices_of (g.F.PriceFn.may_return c.args.tariff.now)) rows c.in-Some.ensures.promise (dart_of rows c.args.number)
    p c.in-Some.price asked c.in-Some.ensures.price in
    omega arith

pub returns-in-None : goal.returns-in-None
returns-in-None g c p asked low = c.in-None.ensures.price p asked
