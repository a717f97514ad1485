use Rattle.std.proofs.Common.{◌≡◌, ◌≢◌, ◌<◌, ℕ, Some}
use Rattle.topo_core.specs.declared.darts.Dart.{Dart}
use Rattle.topo_core.specs.Picture.{corner}
use Rattle.topo_route.specs.Plans.{height_in}
use Rattle.topo_route.proofs.heights.has_first_start.Given as goal

abbrev pub invariant-loop-position : goal.invariant-loop-position
invariant-loop-position g l = (p : ℕ) (c : Dart) → p < l.position → corner (g.D.Dual.shows l.dual) l.u p ≡ Some c
    → height_in (g.D.Dual.shows l.dual) l.heights c ≢ l.price
