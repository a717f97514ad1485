use Rattle.topo_route.proofs.names.Names.{corner_name}
use Rattle.topo_route.proofs.steps.corner_at.Goals as goal

pub returns : goal.returns
returns g c = corner_name (g.W.FaceGraph.named c.args.graph.now) (g.met.W.FaceGraph.lawful c.args.graph.now)
    (g.met.W.FaceGraph.has_names c.args.graph.now) c.args.v c.args.position c.corner.result c.corner.ensures
