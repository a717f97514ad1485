use Rattle.topo_route.specs.Names.{dart_named}
use Rattle.topo_route.proofs.surviving.Marking.{marked}
use Rattle.topo_route.proofs.planned.seen.mark_edge.Goals as goal

pub returns : goal.returns
returns g c =
    let named = g.W.FaceGraph.named c.args.graph.now in
    let good = (g.met.W.FaceGraph.lawful c.args.graph.now).embedding.well_formed in
    let marks = marked named.rows good c.args.region.now c.mark.new.self (dart_named named c.args.dart)
    c.facts.result c.requires.of_rows c.requires.name.there c.facts.ensures c.in_ok-mark.ensures.edges c.in_ok-mark.ensures.vertices in
    record { of_rows = marks.of_rows; more = marks.more; itself = marks.itself }
