use Rattle.std.proofs.Common.{◌<◌, ◌≤◌, ◌+◌, ℕ}
use Rattle.std.specs.Prelude.{slice_index}
use Rattle.topo_core.specs.Rotations.{twin}
use Rattle.topo_core.specs.Routes.{KeepsPromise, Price}
use Rattle.topo_price.specs.Prices.{prices_of}
use Rattle.topo_route.specs.Numbers.{dart_of}
use Rattle.topo_route.proofs.heights.is_gentle.Given as goal

abbrev pub invariant-loop-dart : goal.invariant-loop-dart
invariant-loop-dart g l = record {
  gentle : (k p : ℕ) → k < l.dart → Price (prices_of (g.F.PriceFn.may_return l.tariff)) (g.D.Dual.shows l.dual) (dart_of (g.D.Dual.shows l.dual) k) p
      → slice_index l.heights k ≤ p + slice_index l.heights (twin k);
  promise : 0 < l.dart → KeepsPromise (prices_of (g.F.PriceFn.may_return l.tariff));
}
