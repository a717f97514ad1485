use Rattle.std.proofs.Common.{◌<◌, ◌^◌, arith, sym, ◌∙◌}
use Rattle.topo_price.specs.Prices.{prices_of}
use Rattle.topo_route.specs.Names.{dart_named}
use Rattle.topo_route.proofs.names.Prices.{by_answer, priced_in_range}
use Rattle.topo_route.proofs.names.Ranges.{by_kind, kind_known}
use Rattle.topo_route.proofs.steps.price_at.Goals as goal

pub price_of_kind-known-requires : goal.price_of_kind-known-requires
price_of_kind-known-requires g c =
    let graph = c.args.graph.now in
    let named = g.W.FaceGraph.named graph in
    let known = kind_known named (g.met.W.FaceGraph.lawful graph) (g.met.W.FaceGraph.has_names graph) c.args.dart c.requires in
    grind arith

pub returns-in-Some : goal.returns-in-Some
returns-in-Some g c =
    let price = prices_of (g.F.PriceFn.may_return c.args.tariff.now) in
    let graph = c.args.graph.now in
    let named = g.W.FaceGraph.named graph in
    let small : named.size < 2 ^ 32 = omega (arith, c.size-darts.ensures, c.size-darts.type_inv) in
    let short : (dart_named named c.args.dart).edge < 2 ^ 32 = omega (arith, c.edge-edge.ensures, c.edge-edge.type_inv) in
    let is = by_kind named (g.met.W.FaceGraph.lawful graph) (g.met.W.FaceGraph.has_names graph) c.args.dart c.requires price c.in-Some.price small short
    (λ facts same. c.in-Some.ensures.price facts (same ∙ sym c.kind.ensures)) in
    record {
      price = is;
      in_range = priced_in_range price named.rows (dart_named named c.args.dart) c.in-Some.price c.in-Some.ensures.promise is;
      promise = c.in-Some.ensures.promise;
    }

pub returns-in-None-clause-price : goal.returns-in-None-clause-price
returns-in-None-clause-price g c =
    let named = g.W.FaceGraph.named c.args.graph.now in
    by_answer (prices_of (g.F.PriceFn.may_return c.args.tariff.now)) named.rows (dart_named named c.args.dart)
    c.facts-facts.result c.price.result c.facts-facts.ensures c.price.ensures.price
