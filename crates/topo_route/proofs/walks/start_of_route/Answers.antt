use Rattle.std.proofs.Common.{subst}
use Rattle.std.proofs.Common.{List}
use Rattle.topo_core.specs.declared.darts.Dart.{Dart}
use Rattle.topo_price.specs.Prices.{prices_of}
use Rattle.topo_route.specs.Numbers.{Walks, dart_of}
use Rattle.topo_route.proofs.names.Walking.{route_priced}
use Rattle.topo_route.proofs.walks.start_of_route.Goals as goal

pub returns-then-walks : goal.returns-then-walks
returns-then-walks g c =
    let rows = g.D.Dual.shows c.args.dual.now in
    let price = prices_of (g.F.PriceFn.may_return c.args.tariff.now) in
    let On = λ (xs : List Dart). Walks price rows (dart_of rows c.in-Some-Some.from) xs (dart_of rows c.in-Some-Some.to) c.args.price in
    let priced = route_priced price rows c.args.u c.args.v c.args.price c.args.route.now c.in-Some-Some.ensures.1 c.in-Some-Some.ensures'.1
    (subst On c.as_slice.ensures (c.walks.ensures.0 c.if-walks.true)) in (
      c.in-Some-Some.ensures.0,
      priced.0,
      priced.1,
    )
