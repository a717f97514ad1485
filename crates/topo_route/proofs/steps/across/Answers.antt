use Rattle.std.proofs.Common.{sym, subst, ap, ◌∙◌}
use Rattle.topo_route.specs.Names.{IsName, dart_named}
use Rattle.topo_route.proofs.names.Names.{dart_of_twin, twin_is}
use Rattle.topo_route.proofs.steps.across.Goals as goal

pub returns-clause-name : goal.returns-clause-name
returns-clause-name g c =
    let named = g.W.FaceGraph.named c.args.graph.now in
    subst (IsName named) (sym c.twin.ensures)
    (twin_is named (g.met.W.FaceGraph.lawful c.args.graph.now) (g.met.W.FaceGraph.has_names c.args.graph.now) c.args.dart c.requires)

pub returns-clause-other : goal.returns-clause-other
returns-clause-other g c =
    let named = g.W.FaceGraph.named c.args.graph.now in
    ap (dart_named named) c.twin.ensures
    ∙ dart_of_twin named (g.met.W.FaceGraph.lawful c.args.graph.now) (g.met.W.FaceGraph.has_names c.args.graph.now) c.args.dart c.requires
