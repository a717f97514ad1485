use Rattle.std.proofs.Common.{◌<◌, ℕ, sym, subst}
use Rattle.topo_route.specs.Names.{IsName, twin_name}
use Rattle.topo_route.proofs.names.Names.{next_is, twin_is}
use Rattle.topo_route.proofs.steps.step.Goals as goal

pub returns-clause-name : goal.returns-clause-name
returns-clause-name g c =
    let named = g.W.FaceGraph.named c.args.graph.now in
    subst (IsName named) (sym c.step.ensures.next)
    (next_is named (g.met.W.FaceGraph.lawful c.args.graph.now) (g.met.W.FaceGraph.has_names c.args.graph.now) c.args.dart c.requires)

pub returns-clause-within : goal.returns-clause-within
returns-clause-within g c =
    let named = g.W.FaceGraph.named c.args.graph.now in
    subst (λ (label : ℕ). label < g.W.FaceGraph.face_bound c.args.graph.now) (sym c.step.ensures.beyond)
    ((g.met.W.FaceGraph.has_faces c.args.graph.now).within (twin_name named c.args.dart)
    (twin_is named (g.met.W.FaceGraph.lawful c.args.graph.now) (g.met.W.FaceGraph.has_names c.args.graph.now) c.args.dart c.requires))
