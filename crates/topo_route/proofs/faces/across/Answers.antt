use Rattle.std.proofs.Common.{arith}
use Rattle.topo_route.proofs.names.Canonical.{is_number, number_is, twin_is_number}
use Rattle.topo_route.proofs.faces.across.Goals as goal

pub across-requires : goal.across-requires
across-requires g c =
    let dual = c.args.dual.now in
    number_is (g.D.FaceGraph.named dual) (g.D.Dual.shows dual) (g.met.D.Dual.numbered dual) (g.met.D.FaceGraph.lawful dual) c.args.dart c.requires

pub returns-clause-twin : goal.returns-clause-twin
returns-clause-twin g c = grind (arith, twin_is_number)

pub returns-clause-within : goal.returns-clause-within
returns-clause-within g c = grind (arith, is_number)
