use Rattle.std.proofs.Common.{◌≡◌, ◌<◌, ℕ, Some}
use Rattle.topo_core.specs.Picture.{corner}
use Rattle.topo_core.specs.declared.darts.Dart.{Dart}
use Rattle.topo_route.specs.Potentials.{IsOfGuide}
use Rattle.topo_route.proofs.guided.guide.Guide.to.Given as goal

abbrev pub invariant-loop-position : goal.invariant-loop-position
invariant-loop-position g l = (p : ℕ) (c : Dart) → p < l.position → corner (g.W.FaceGraph.named l.graph).rows l.u p ≡ Some c
    → IsOfGuide l.guide (g.W.FaceGraph.potentials l.graph (g.W.FaceGraph.face_of l.graph ((g.W.FaceGraph.named l.graph).name c)))
