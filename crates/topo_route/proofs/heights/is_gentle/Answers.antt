use Rattle.std.proofs.Common.{◌≡◌, ◌<◌, ap, arith, get_or, length, refl}
use Rattle.std.proofs.lemmas.Bool.{false≢true}
use Rattle.topo_core.specs.Picture.{darts}
use Rattle.topo_core.specs.Rotations.{twin}
use Rattle.topo_core.proofs.Interface.{single_price}
use Rattle.topo_price.specs.Prices.{prices_of}
use Rattle.topo_route.specs.Numbers.{dart_of}
use Rattle.topo_route.proofs.names.Canonical.{lawful_shown}
use Rattle.topo_route.proofs.plans.Tests.{gentle_darts, gentle_numbers, gentle_some, gentle_past}
use Rattle.topo_route.proofs.heights.is_gentle.Goals as goal
use Rattle.topo_route.proofs.heights.is_gentle.Goals.{in-Some+else-saturating_sub-price, in_default}

pub returns-then-saturating_sub-price-clause-gentle : goal.returns-then-saturating_sub-price-clause-gentle
returns-then-saturating_sub-price-clause-gentle g c =
    let rows = g.D.Dual.shows c.args.dual.now in
    let within : c.loop-dart.dart < length (darts rows) = omega arith in
    let other : get_or c.args.heights.now c.across.result 0 ≡ get_or c.args.heights.now (twin c.loop-dart.dart) 0 =
    ap (λ k. get_or c.args.heights.now k 0) c.across.ensures.twin in (
      λ w. absurd (false≢true w),
      λ gentle.
          let climb = gentle_numbers rows (lawful_shown (g.met.D.Dual.numbered c.args.dual.now) (g.met.D.FaceGraph.lawful c.args.dual.now)) c.args.heights.now
          (prices_of (g.F.PriceFn.may_return c.args.tariff.now)) gentle c.loop-dart.dart c.in-Some.price within c.in-Some.ensures.price in
          absurd (omega arith),
    )

pub loop-dart-preserved : goal.loop-dart-preserved
loop-dart-preserved g c =
    let rows = g.D.Dual.shows c.args.dual.now in
    let price = prices_of (g.F.PriceFn.may_return c.args.tariff.now) in
    elim c.match-price_at.branch [
      | in-Some+else-saturating_sub-price w ↦
          let other : get_or c.args.heights.now w.across.result 0 ≡ get_or c.args.heights.now (twin c.loop-dart.dart) 0 =
          ap (λ k. get_or c.args.heights.now k 0) w.across.ensures.twin in
          record {
            gentle = gentle_some rows c.args.heights.now price c.loop-dart.dart w.in-Some.price
                (single_price price rows w.in-Some.ensures.promise (dart_of rows c.loop-dart.dart))
                w.in-Some.ensures.price (omega arith) c.loop-dart.invariant.gentle;
            promise = λ l. w.in-Some.ensures.promise;
          }
      | in_default w ↦ record {
        gentle = gentle_past rows c.args.heights.now price c.loop-dart.dart w.in_default.ensures.price c.loop-dart.invariant.gentle;
        promise = λ l. w.in_default.ensures.promise;
      }
    ]

pub returns-clause-gentle : goal.returns-clause-gentle
returns-clause-gentle g c =
    let rows = g.D.Dual.shows c.args.dual.now in (
      λ w. gentle_darts rows (lawful_shown (g.met.D.Dual.numbered c.args.dual.now) (g.met.D.FaceGraph.lawful c.args.dual.now)) c.args.heights.now
          (prices_of (g.F.PriceFn.may_return c.args.tariff.now)) (λ k p l. c.loop-dart.invariant.gentle k p (omega arith)),
      λ gentle. refl,
    )
