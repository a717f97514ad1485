use Rattle.std.proofs.Common.{◌≡◌, ap, arith, get_or}
use Rattle.std.proofs.lemmas.Bool.{false≢true, eqb-true, eq-eqb}
use Rattle.topo_core.specs.Rotations.{twin}
use Rattle.topo_core.proofs.Interface.{single_price}
use Rattle.topo_price.specs.Prices.{prices_of}
use Rattle.topo_route.specs.Numbers.{dart_of}
use Rattle.topo_route.proofs.names.Canonical.{lawful_shown}
use Rattle.topo_route.proofs.names.Walking.{tight_is, tight_drop}
use Rattle.topo_route.proofs.walks.is_tight.Goals as goal

pub returns-else-height-other : goal.returns-else-height-other
returns-else-height-other g c =
    let rows = g.D.Dual.shows c.args.dual.now in
    let lawful = lawful_shown (g.met.D.Dual.numbered c.args.dual.now) (g.met.D.FaceGraph.lawful c.args.dual.now) in
    let price = prices_of (g.F.PriceFn.may_return c.args.tariff.now) in
    let other : get_or c.args.heights.now c.across.result 0 ≡ get_or c.args.heights.now (twin c.args.dart) 0 =
    ap (λ k. get_or c.args.heights.now k 0) c.across.ensures.twin in (
      λ w. let same = eqb-true _ _ w in
          tight_is price rows lawful c.args.heights.now c.args.dart c.in-Some.price c.requires.within c.in-Some.ensures.price (omega arith),
      λ tight. eq-eqb _ _ (let drop = tight_drop price rows lawful c.args.heights.now c.args.dart c.in-Some.price c.requires.within
          (λ q asked. single_price price rows c.in-Some.ensures.promise (dart_of rows c.args.dart) q c.in-Some.price asked c.in-Some.ensures.price)
          tight in omega arith),
    )

pub returns-then-height-other : goal.returns-then-height-other
returns-then-height-other g c =
    let rows = g.D.Dual.shows c.args.dual.now in
    let lawful = lawful_shown (g.met.D.Dual.numbered c.args.dual.now) (g.met.D.FaceGraph.lawful c.args.dual.now) in
    let price = prices_of (g.F.PriceFn.may_return c.args.tariff.now) in
    let other : get_or c.args.heights.now c.across.result 0 ≡ get_or c.args.heights.now (twin c.args.dart) 0 =
    ap (λ k. get_or c.args.heights.now k 0) c.across.ensures.twin in (
      λ w. absurd (false≢true w),
      λ tight. let drop = tight_drop price rows lawful c.args.heights.now c.args.dart c.in-Some.price c.requires.within
          (λ q asked. single_price price rows c.in-Some.ensures.promise (dart_of rows c.args.dart) q c.in-Some.price asked c.in-Some.ensures.price) tight in
          absurd (omega arith),
    )

pub returns-in-None : goal.returns-in-None
returns-in-None g c = (λ w. absurd (false≢true w), λ tight. absurd (c.in-None.ensures.price tight.cost tight.asked))
