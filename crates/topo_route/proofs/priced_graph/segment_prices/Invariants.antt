use Rattle.topo_price.specs.Prices.{prices_of}
use Rattle.topo_route.specs.EachOnce.{AreAsked}
use Rattle.topo_route.specs.Settling.{ArePricesOf}
use Rattle.topo_route.proofs.priced_graph.segment_prices.Given as goal

-- there is a price for each segment so far, and each edge of them was asked for once
abbrev pub invariant-loop-segment : goal.invariant-loop-segment
invariant-loop-segment g l =
    let price = prices_of (g.F.PriceFn.may_return l.tariff) in
    ArePricesOf price (g.D.Dual.shows l.dual) l.prices.items l.segment × AreAsked price (g.D.Dual.shows l.dual) l.asked l.segment
