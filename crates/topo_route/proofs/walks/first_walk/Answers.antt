use Rattle.std.proofs.Common.{arith, ◌≡◌, ◌+◌, ◌∷◌, ◌∙◌, List, sym, ap, subst, drop, true}
use Rattle.std.proofs.lemmas.Bool.{false≢true}
use Rattle.topo_core.specs.declared.darts.Dart.{Dart}
use Rattle.topo_core.specs.Picture.{darts, system}
use Rattle.topo_core.specs.RouteLaws.{TakesFirstDarts, arrival}
use Rattle.topo_core.specs.Routes.{Crosses}
use Rattle.topo_core.specs.Systems.{has_dart}
use Rattle.topo_price.specs.Prices.{prices_of}
use Rattle.topo_route.specs.Numbers.{HasTightBefore, dart_of}
use Rattle.topo_route.specs.Plans.{height_in}
use Rattle.topo_route.proofs.names.Canonical.{lawful_shown}
use Rattle.topo_route.proofs.names.Numbers.{dart_in}
use Rattle.topo_route.proofs.names.Walking.{arrives_on, face_has, first_fails, from_item, takes_back, takes_on, walk_on}
use Rattle.topo_route.proofs.walks.first_walk.Goals as goal

pub returns-then-has_tight_before : goal.returns-then-has_tight_before
returns-then-has_tight_before g c takes =
    let rows = g.D.Dual.shows c.args.dual.now in
    let price = prices_of (g.F.PriceFn.may_return c.args.tariff.now) in
    let lawful = lawful_shown (g.met.D.Dual.numbered c.args.dual.now) (g.met.D.FaceGraph.lawful c.args.dual.now) in
    let heights = c.args.heights.now in
    let i = c.loop-dart.dart-index in
    let rest = from_item c.args.crossed.now i c.dart-item.result c.loop-dart-test.true c.dart-item.is in
    let (within, is, of) = c.in-Some.ensures in
    first_fails price rows lawful heights c.loop-dart.at c.dart-item.result (drop (i + 1) c.args.crossed.now) c.loop-dart.invariant.within
    (subst (λ d. has_dart (darts rows) d ≡ true) is (dart_in rows lawful c.in-Some.number within))
    (subst (HasTightBefore price rows heights c.loop-dart.at) (sym of) (c.has_tight_before.ensures.0 c.if-has_tight_before.true))
    (subst (λ (ys : List Dart). TakesFirstDarts price rows (height_in rows heights) (dart_of rows c.loop-dart.at) ys) rest (c.loop-dart.invariant.forth takes))

pub returns-in-None : goal.returns-in-None
returns-in-None g c takes = grind (arith, lawful_shown, from_item, false≢true, face_has, dart_in)

pub loop-dart-preserved : goal.loop-dart-preserved
loop-dart-preserved g c =
    let rows = g.D.Dual.shows c.args.dual.now in
    let price = prices_of (g.F.PriceFn.may_return c.args.tariff.now) in
    let lawful = lawful_shown (g.met.D.Dual.numbered c.args.dual.now) (g.met.D.FaceGraph.lawful c.args.dual.now) in
    let i = c.loop-dart.dart-index in
    let heights = c.args.heights.now in
    let xs = drop (i + 1) c.args.crossed.now in
    let rest : drop i c.args.crossed.now ≡ c.dart-item.result ∷ xs = from_item c.args.crossed.now i c.dart-item.result c.loop-dart-test.true c.dart-item.is in
    let to = c.loop-dart.invariant.walk.0 in
    let On = λ (ys : List Dart). Crosses (system rows) (dart_of rows c.loop-dart.at) ys to in
    let Takes = λ (ys : List Dart). TakesFirstDarts price rows (height_in rows heights) (dart_of rows c.loop-dart.at) ys in
    let none = λ (before : HasTightBefore price rows heights c.loop-dart.at c.in-Some.number). false≢true
    (sym c.if-has_tight_before.false ∙ c.has_tight_before.ensures.1 before) in
    let within = c.loop-dart.invariant.within in
    let there = c.in-Some.ensures.0 in
    let is = c.in-Some.ensures.1 in
    let of = c.in-Some.ensures.2 in
    let lands = c.across-at.ensures.twin in
    record {
      within = c.across-at.ensures.within;
      walk = (
        to,
        walk_on price rows lawful heights c.loop-dart.at c.in-Some.number c.across-at.result c.dart-item.result xs within there is of lands to
            (subst On rest c.loop-dart.invariant.walk.1),
      );
      arrives = arrives_on price rows lawful heights c.loop-dart.at c.in-Some.number c.across-at.result c.dart-item.result xs within there is of lands
          ∙ sym (ap (arrival (dart_of rows c.loop-dart.at)) rest) ∙ c.loop-dart.invariant.arrives;
      forth = λ takes. takes_on price rows lawful heights c.loop-dart.at c.in-Some.number c.across-at.result c.dart-item.result xs within there is of lands
          (subst Takes rest (c.loop-dart.invariant.forth takes));
      back = λ takes. c.loop-dart.invariant.back (subst Takes (sym rest)
          (takes_back price rows lawful heights c.loop-dart.at c.in-Some.number c.across-at.result c.dart-item.result xs within there is of lands none takes));
    }
