use Rattle.std.proofs.Common.{◌≡◌, ◌<◌, ℕ, length}
use Rattle.topo_core.specs.Cycles.{after}
use Rattle.topo_core.specs.Picture.{darts}
use Rattle.topo_core.specs.RouteLaws.{IsTight}
use Rattle.topo_price.specs.Prices.{prices_of}
use Rattle.topo_route.specs.Numbers.{dart_of, next_of}
use Rattle.topo_route.specs.Plans.{height_in}
use Rattle.topo_route.proofs.walks.has_tight_before.Given as goal

-- where the walk is, and that it has met no such dart
abbrev pub invariant-loop-steps : goal.invariant-loop-steps
invariant-loop-steps g l =
    let rows = g.D.Dual.shows l.dual in
    record {
      place : l.dart ≡ after (next_of rows) l._steps l.at;
      within : l.dart < length (darts rows);
      none : (j : ℕ) → j < l._steps → after (next_of rows) j l.at < l.number
          → IsTight (prices_of (g.F.PriceFn.may_return l.tariff)) rows (height_in rows l.heights) (dart_of rows (after (next_of rows) j l.at)) → ⊥;
    }
