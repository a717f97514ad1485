use Rattle.std.proofs.Common.{◌≡◌, ◌+◌, ◌/◌, List, arith, length, subst, sym, ℕ}
use Rattle.std.specs.Prelude.{Option}
use Rattle.topo_core.specs.Picture.{darts}
use Rattle.topo_price.specs.Prices.{prices_of}
use Rattle.topo_route.specs.Settling.{ArePrices, ArePricesOf}
use Rattle.topo_route.proofs.names.Asking.{each_once}
use Rattle.topo_route.proofs.names.Canonical.{lawful_shown}
use Rattle.topo_route.proofs.names.Segments.{all_prices, next_price}
use Rattle.topo_route.proofs.priced_graph.segment_prices.Goals as goal

pub loop-segment-preserved : goal.loop-segment-preserved
loop-segment-preserved g c =
    let rows = g.D.Dual.shows c.args.dual.now in
    let price = prices_of (g.F.PriceFn.may_return c.args.tariff.now) in
    let s = c.loop-segment.segment in (
      subst (λ (xs : List (Option ℕ)). ArePricesOf price rows xs (s + 1)) (sym c.in_ok-push.ensures.items)
          (next_price price rows c.loop-segment.prices.items s c.in_ok-price.price c.loop-segment.invariant.0 c.in_ok-price.ensures.price c.keeps_promise.ensures),
      c.in_ok-price.ensures.asked,
    )

pub returns-clause-right : goal.returns-clause-right
returns-clause-right g c =
    let rows = g.D.Dual.shows c.args.dual.now in
    let whole : c.loop-segment.segment ≡ length (darts rows) / 2 = omega arith in
    let numbered = g.met.D.Dual.numbered c.args.dual.now in
    let price = prices_of (g.F.PriceFn.may_return c.args.tariff.now) in
    subst (λ n. ArePrices price n c.loop-segment.prices.items) (sym numbered)
    (all_prices price rows (lawful_shown numbered (g.met.D.FaceGraph.lawful c.args.dual.now))
    c.loop-segment.prices.items c.loop-segment.segment whole c.loop-segment.invariant.0)

pub returns-clause-once : goal.returns-clause-once
returns-clause-once g c =
    let rows = g.D.Dual.shows c.args.dual.now in
    let whole : c.loop-segment.segment ≡ length (darts rows) / 2 = omega arith in
    each_once (prices_of (g.F.PriceFn.may_return c.args.tariff.now)) rows
    (lawful_shown (g.met.D.Dual.numbered c.args.dual.now) (g.met.D.FaceGraph.lawful c.args.dual.now))
    c.loop-segment.asked c.loop-segment.segment c.loop-segment.invariant.1 whole
