use Rattle.std.proofs.Common.{arith}
use Rattle.topo_route.specs.PricedFaces.{heights_over}
use Rattle.topo_route.specs.Potentials.{bound_by}
use Rattle.topo_route.specs.Searches.{priced_faces}
use Rattle.topo_route.proofs.spreading.Shown.{are_faces}
use Rattle.topo_route.proofs.meeting.Bounds.{are_bounds, bound_small}
use Rattle.topo_route.proofs.meeting.Guided.{for_toward}
use Rattle.topo_route.proofs.spreading.Settled.{meets_lower}
use Rattle.topo_route.proofs.guided.toward.heights_toward.Goals as goal

pub returns-clause-heights : goal.returns-clause-heights
returns-clause-heights g c =
    let seen = priced_faces g.W.FaceGraph g.F.PriceFn c.args.priced.now in
    let laws = are_faces g.W.FaceGraph g.F.PriceFn g.met.W.FaceGraph.lawful g.met.W.FaceGraph.has_names g.met.W.FaceGraph.has_faces c.args.priced.now in
    let graph = c.args.priced.now.graph.now in
    let potentials = g.W.FaceGraph.potentials graph in
    let consistent = g.met.W.FaceGraph.is_consistent graph in
    let guide = c.args.guide.now in
    let both = c.in_ok-least.ensures in
    let on = c.in_ok-spread_toward.ensures in
    let before = heights_over seen c.start_both.new.work.to_end.heights in
    let heights = heights_over seen c.spread_toward.new.self.heights in
    let distances = heights_over seen c.start_both.new.work.to_start.heights in
    for_toward seen.price seen.named laws.lawful laws.names c.args.u c.args.v (c.requires.priced.right.promise c.requires.priced.some) heights distances
    (λ k. bound_by guide (potentials (seen.face k))) c.spread_toward.new.least
    (are_bounds seen.price seen.named laws.lawful laws.names seen.face (g.W.FaceGraph.face_bound graph) (g.met.W.FaceGraph.has_faces graph) c.args.u guide potentials
    (g.W.FaceGraph.floor graph) consistent c.requires.floors c.requires.corners)
    (λ k l. bound_small guide (potentials (seen.face k)))
    on.costs.costs both.back.costs.costs (meets_lower seen.named c.args.v before heights on.lower both.at_target) both.at_start
    on.sums (omega (arith, on.less, c.spread_toward.auto.least)) on.settled
