use Rattle.std.proofs.Common.{◌≡◌, ◌≢◌, ◌<◌, ℕ, Some}
use Rattle.topo_core.specs.declared.darts.Dart.{Dart}
use Rattle.topo_core.specs.Picture.{corner}
use Rattle.topo_route.specs.FaceHeights.{dart_heights}
use Rattle.topo_route.specs.Names.{height_of}
use Rattle.topo_route.proofs.descent.corner_of_height.Given as goal

abbrev pub invariant-loop-position : goal.invariant-loop-position
invariant-loop-position g l =
    let named = g.W.FaceGraph.named l.graph in
    (p : ℕ) (c : Dart) → p < l.position → corner named.rows l.u p ≡ Some c
    → height_of named (dart_heights named (g.W.FaceGraph.face_of l.graph) l.heights) c ≢ l.height
