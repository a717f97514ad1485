use Rattle.std.proofs.Common.{arith, ◌≡◌, ◌+◌, [], ◌∷◌, List, subst, sym, drop}
use Rattle.std.proofs.lemmas.Bool.{false≢true}
use Rattle.std.proofs.lemmas.List.{drop_all}
use Rattle.topo_core.specs.declared.darts.Dart.{Dart}
use Rattle.topo_price.specs.Prices.{prices_of}
use Rattle.topo_route.specs.Numbers.{Walks, dart_of}
use Rattle.topo_route.proofs.names.Canonical.{lawful_shown}
use Rattle.topo_route.proofs.names.Walking.{from_item, no_step, step_back, step_forth, walks_home}
use Rattle.topo_route.proofs.walks.walks.Goals as goal

pub returns-in-None : goal.returns-in-None
returns-in-None g c =
    let rows = g.D.Dual.shows c.args.dual.now in
    let price = prices_of (g.F.PriceFn.may_return c.args.tariff.now) in
    let i = c.loop-dart.dart-index in
    let rest : drop i c.args.crossed.now ≡ c.dart-item.result ∷ drop (i + 1) c.args.crossed.now =
    from_item c.args.crossed.now i c.dart-item.result c.loop-dart-test.true c.dart-item.is in
    let On = λ (xs : List Dart). Walks price rows (dart_of rows c.loop-dart.at) xs (dart_of rows c.args.to) c.loop-dart.left in (
      λ w. absurd (false≢true w),
      λ walk. absurd (no_step price rows (lawful_shown (g.met.D.Dual.numbered c.args.dual.now) (g.met.D.FaceGraph.lawful c.args.dual.now))
          c.loop-dart.at c.dart-item.result (drop (i + 1) c.args.crossed.now) (dart_of rows c.args.to) c.loop-dart.left
          c.in-None.ensures (subst On rest (c.loop-dart.invariant.forth walk))),
    )

pub loop-dart-preserved : goal.loop-dart-preserved
loop-dart-preserved g c = grind (arith, from_item, lawful_shown, step_forth, step_back)

pub returns-then-left-eq0 : goal.returns-then-left-eq0
returns-then-left-eq0 g c =
    let rows = g.D.Dual.shows c.args.dual.now in
    let price = prices_of (g.F.PriceFn.may_return c.args.tariff.now) in
    let i = c.loop-dart.dart-index in
    let none : drop i c.args.crossed.now ≡ [] = drop_all i c.args.crossed.now c.loop-dart-test.false in
    let On = λ (xs : List Dart). Walks price rows (dart_of rows c.loop-dart.at) xs (dart_of rows c.args.to) c.loop-dart.left in
    walks_home (lawful_shown (g.met.D.Dual.numbered c.args.dual.now) (g.met.D.FaceGraph.lawful c.args.dual.now))
    c.loop-dart.at c.args.to c.loop-dart.invariant.within c.requires.to_within (λ whole. (subst On none (c.loop-dart.invariant.forth whole)).0)
    (λ face. c.loop-dart.invariant.back (subst On (sym none) (face, c.if-left-eq0.true))) c.same_face.ensures
