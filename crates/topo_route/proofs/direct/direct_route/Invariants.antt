use Rattle.std.proofs.Common.{◌≡◌, ◌<◌, ℕ, Some}
use Rattle.topo_core.specs.declared.darts.Dart.{Dart}
use Rattle.topo_core.specs.Picture.{corner}
use Rattle.topo_route.specs.Descents.{HasNoEnd}
use Rattle.topo_route.proofs.direct.direct_route.Given as goal

abbrev pub invariant-loop-start : goal.invariant-loop-start
invariant-loop-start g l =
    let named = g.W.FaceGraph.named l.graph in
    (p : ℕ) (c : Dart) → p < l.start → corner named.rows l.u p ≡ Some c → HasNoEnd named.rows l.v c
