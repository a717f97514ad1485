use Rattle.std.proofs.Common.{◌≡◌, ◌<◌, drop, length}
use Rattle.topo_core.specs.declared.darts.Dart.{Dart}
use Rattle.topo_core.specs.Picture.{darts, system}
use Rattle.topo_core.specs.RouteLaws.{TakesFirstDarts, arrival}
use Rattle.topo_core.specs.Routes.{Crosses}
use Rattle.topo_price.specs.Prices.{prices_of}
use Rattle.topo_route.specs.Numbers.{dart_of}
use Rattle.topo_route.specs.Plans.{height_in}
use Rattle.topo_route.proofs.walks.first_walk.Given as goal

-- the darts that are left are the first from here just when all are the first from the start
abbrev pub invariant-loop-dart : goal.invariant-loop-dart
invariant-loop-dart g l =
    let rows = g.D.Dual.shows l.dual in
    let Takes = TakesFirstDarts (prices_of (g.F.PriceFn.may_return l.tariff)) rows (height_in rows l.heights) in
    record {
      within : l.at < length (darts rows);
      walk : (to : Dart) × Crosses (system rows) (dart_of rows l.at) (drop l.dart-index l.crossed) to;
      arrives : arrival (dart_of rows l.at) (drop l.dart-index l.crossed) ≡ arrival (dart_of rows l.from) l.crossed;
      forth : Takes (dart_of rows l.from) l.crossed → Takes (dart_of rows l.at) (drop l.dart-index l.crossed);
      back : Takes (dart_of rows l.at) (drop l.dart-index l.crossed) → Takes (dart_of rows l.from) l.crossed;
    }
