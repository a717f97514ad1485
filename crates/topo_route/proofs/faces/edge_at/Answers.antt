use Rattle.std.proofs.Common.{arith}
use Rattle.topo_route.proofs.names.Canonical.{dart_is_number, number_is}
use Rattle.topo_route.proofs.faces.edge_at.Goals as goal

pub edge-requires : goal.edge-requires
edge-requires g c =
    let dual = c.args.dual.now in
    number_is (g.D.FaceGraph.named dual) (g.D.Dual.shows dual) (g.met.D.Dual.numbered dual) (g.met.D.FaceGraph.lawful dual) c.args.dart c.requires

pub returns : goal.returns
returns g c = grind (arith, dart_is_number)
