use Rattle.std.proofs.Common.{◌∙◌, sym}
use Rattle.std.proofs.lemmas.Bool.{eqb-true, eq-eqb}
use Rattle.topo_route.proofs.steps.same_face.Goals as goal

pub returns : goal.returns
returns g c =
    let faces = g.met.W.FaceGraph.has_faces c.args.graph.now in (
      λ e. faces.one c.args.dart c.args.other c.requires.dart_there c.requires.other_there (sym c.face.ensures ∙ eqb-true c.face.result c.face-2.result e
          ∙ c.face-2.ensures),
      λ same. eq-eqb c.face.result c.face-2.result (c.face.ensures ∙ faces.same c.args.dart c.args.other c.requires.dart_there c.requires.other_there same
          ∙ sym c.face-2.ensures),
    )
