use Rattle.std.proofs.Common.{arith}
use Rattle.topo_route.proofs.names.Canonical.{face_is_cycle, number_is}
use Rattle.topo_route.proofs.faces.same_face.Goals as goal

pub same_face-requires-clause-dart_there : goal.same_face-requires-clause-dart_there
same_face-requires-clause-dart_there g c =
    let dual = c.args.dual.now in
    number_is (g.D.FaceGraph.named dual) (g.D.Dual.shows dual) (g.met.D.Dual.numbered dual) (g.met.D.FaceGraph.lawful dual) c.args.a c.requires.a_within

pub same_face-requires-clause-other_there : goal.same_face-requires-clause-other_there
same_face-requires-clause-other_there g c =
    let dual = c.args.dual.now in
    number_is (g.D.FaceGraph.named dual) (g.D.Dual.shows dual) (g.met.D.Dual.numbered dual) (g.met.D.FaceGraph.lawful dual) c.args.b c.requires.b_within

pub returns : goal.returns
returns g c = grind (arith, face_is_cycle)
