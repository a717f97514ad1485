use Rattle.std.proofs.Common.{rules}
use Rattle.topo_price.specs.Prices.{prices_of}
use Rattle.topo_route.proofs.meeting.Descending.{has_darts}
use Rattle.topo_route.proofs.meeting.Uncrossed.{first_direct}
use Rattle.topo_route.proofs.search.first_route.Goals as goal

pub heights_toward-requires-clause-priced : goal.heights_toward-requires-clause-priced
heights_toward-requires-clause-priced g c =
    record {
      right = search rules;
      some = has_darts (g.W.FaceGraph.named c.args.graph.now).rows (g.met.W.FaceGraph.lawful c.args.graph.now) c.args.u c.requires.u_there;
    }

pub heights_for-requires : goal.heights_for-requires
heights_for-requires g c =
    record {
      right = search rules;
      some = has_darts (g.W.FaceGraph.named c.args.graph.now).rows (g.met.W.FaceGraph.lawful c.args.graph.now) c.args.u c.requires.u_there;
    }

pub route_by_heights-requires-clause-some : goal.route_by_heights-requires-clause-some
route_by_heights-requires-clause-some g c =
    has_darts (g.W.FaceGraph.named c.args.graph.now).rows (g.met.W.FaceGraph.lawful c.args.graph.now) c.args.u c.requires.u_there

pub returns-in-Some : goal.returns-in-Some
returns-in-Some g c =
    first_direct (prices_of (g.F.PriceFn.may_return c.args.tariff.now)) c.keeps_promise.ensures
    (g.W.FaceGraph.named c.args.graph.now).rows c.args.u c.args.v c.in-Some.route c.in-Some.ensures
