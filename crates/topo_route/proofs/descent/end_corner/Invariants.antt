use Rattle.std.proofs.Common.{◌≡◌, ◌<◌, ℕ, Some}
use Rattle.topo_core.specs.declared.darts.Dart.{Dart}
use Rattle.topo_core.specs.Picture.{corner, system}
use Rattle.topo_core.specs.Systems.{SameFace}
use Rattle.topo_route.specs.Names.{dart_named}
use Rattle.topo_route.proofs.descent.end_corner.Given as goal

abbrev pub invariant-loop-position : goal.invariant-loop-position
invariant-loop-position g l =
    let named = g.W.FaceGraph.named l.graph in
    (p : ℕ) (c : Dart) → p < l.position → corner named.rows l.v p ≡ Some c → SameFace (system named.rows) (dart_named named l.last) c → ⊥
