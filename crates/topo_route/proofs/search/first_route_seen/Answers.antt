use Rattle.std.proofs.Common.{subst}
use Rattle.std.specs.Prelude.{IfSome}
use Rattle.topo_price.specs.Prices.{prices_of}
use Rattle.topo_route.specs.FaceHeights.{dart_heights}
use Rattle.topo_route.specs.Seen.{RestsOn}
use Rattle.topo_route.proofs.surviving.SeenRegions.{HasSeen, first_seen}
use Rattle.topo_route.proofs.search.first_route_seen.Goals as goal

pub returns-in_ok-region-in-Some-clause-region : goal.returns-in_ok-region-in-Some-clause-region
returns-in_ok-region-in-Some-clause-region g c =
    let price = prices_of (g.F.PriceFn.may_return c.args.tariff.now) in
    let named = g.W.FaceGraph.named c.args.graph.now in
    let face = g.W.FaceGraph.face_of c.args.graph.now in
    let heights = dart_heights named face c.find_route.new.work.to_end.heights in
    let distances = dart_heights named face c.find_route.new.work.to_start.heights in
    let rests =
    subst (λ o. IfSome o
    (λ r. IfSome r.stop (λ stop. RestsOn price named c.args.u c.args.v heights distances stop.level stop.least r.first.route r.first.price)))
    c.in-Some.is c.in_ok-found.ensures.stop in
    let seen : HasSeen price named c.args.u c.args.v heights distances c.in-Some.field-0.stop c.in-Some.field-0.first.route c.in-Some.field-0.first.price
    c.in_ok-region-in-Some.region = record { rests = rests; seen = c.in_ok-region-in-Some.ensures } in
    first_seen c.in_ok-found.ensures.promise (g.met.W.FaceGraph.lawful c.args.graph.now) (g.met.W.FaceGraph.has_names c.args.graph.now) seen
