use Rattle.topo_route.proofs.names.Canonical.{lawful_shown}
use Rattle.topo_route.proofs.names.Walking.{number_found}
use Rattle.topo_route.proofs.walks.number_of.Goals as goal

pub returns : goal.returns
returns g c = number_found (g.D.Dual.shows c.args.dual.now) (lawful_shown (g.met.D.Dual.numbered c.args.dual.now) (g.met.D.FaceGraph.lawful c.args.dual.now))
    c.args.dart c.index.result c.index.ensures
