use Rattle.std.proofs.Common.{arith}
use Rattle.topo_route.proofs.names.Canonical.{is_number, next_is_number, number_is}
use Rattle.topo_route.proofs.faces.next_along.Goals as goal

pub next_along-requires : goal.next_along-requires
next_along-requires g c =
    let dual = c.args.dual.now in
    number_is (g.D.FaceGraph.named dual) (g.D.Dual.shows dual) (g.met.D.Dual.numbered dual) (g.met.D.FaceGraph.lawful dual) c.args.dart c.requires

pub returns-clause-next : goal.returns-clause-next
returns-clause-next g c = grind (arith, next_is_number)

pub returns-clause-within : goal.returns-clause-within
returns-clause-within g c = grind (arith, is_number)
