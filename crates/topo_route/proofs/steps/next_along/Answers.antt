use Rattle.std.proofs.Common.{sym, subst}
use Rattle.topo_route.specs.Names.{IsName}
use Rattle.topo_route.proofs.names.Names.{next_is}
use Rattle.topo_route.proofs.steps.next_along.Goals as goal

pub returns-clause-name : goal.returns-clause-name
returns-clause-name g c =
    let named = g.W.FaceGraph.named c.args.graph.now in
    subst (IsName named) (sym c.next.ensures)
    (next_is named (g.met.W.FaceGraph.lawful c.args.graph.now) (g.met.W.FaceGraph.has_names c.args.graph.now) c.args.dart c.requires)
