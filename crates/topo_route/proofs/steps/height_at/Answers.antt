use Rattle.std.proofs.Common.{◌<◌, ◌∙◌, ap, arith, length, sym}
use Rattle.std.specs.Prelude.{slice_index}
use Rattle.topo_route.proofs.spreading.FaceHeights.{height_by_face}
use Rattle.topo_route.proofs.steps.height_at.Goals as goal

pub returns : goal.returns
returns g c =
    let named = g.W.FaceGraph.named c.args.graph.now in
    let face = g.W.FaceGraph.face_of c.args.graph.now in
    let within : face c.args.dart < length c.args.heights.now = omega (arith, c.face_at.ensures.within, c.face_at.ensures.face, c.requires.one_each) in
    c.get.ensures ∙ ap (slice_index c.args.heights.now) c.face_at.ensures.face
    ∙ sym (height_by_face named face c.args.heights.now (g.met.W.FaceGraph.has_names c.args.graph.now) c.args.dart c.requires.name within)
