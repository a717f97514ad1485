use Rattle.std.proofs.Common.{◌<◌, drop, length}
use Rattle.topo_core.specs.Picture.{darts}
use Rattle.topo_price.specs.Prices.{prices_of}
use Rattle.topo_route.specs.Numbers.{Walks, dart_of}
use Rattle.topo_route.proofs.walks.walks.Given as goal

-- the darts that are left walk on from here just when all walk from the start
abbrev pub invariant-loop-dart : goal.invariant-loop-dart
invariant-loop-dart g l =
    let rows = g.D.Dual.shows l.dual in
    let price = prices_of (g.F.PriceFn.may_return l.tariff) in
    record {
      within : l.at < length (darts rows);
      forth : Walks price rows (dart_of rows l.from) l.crossed (dart_of rows l.to) l.price
          → Walks price rows (dart_of rows l.at) (drop l.dart-index l.crossed) (dart_of rows l.to) l.left;
      back : Walks price rows (dart_of rows l.at) (drop l.dart-index l.crossed) (dart_of rows l.to) l.left
          → Walks price rows (dart_of rows l.from) l.crossed (dart_of rows l.to) l.price;
    }
