use Rattle.std.proofs.Common.{◌≡◌, ◌<◌, ◌∙◌, ℕ, sym, ap, subst, arith, length}
use Rattle.std.proofs.lemmas.Bool.{false≢true}
use Rattle.topo_core.specs.Cycles.{after}
use Rattle.topo_core.specs.Picture.{darts}
use Rattle.topo_core.specs.RouteLaws.{IsTight}
use Rattle.topo_price.specs.Prices.{prices_of}
use Rattle.topo_route.specs.Numbers.{dart_of, next_of}
use Rattle.topo_route.specs.Plans.{height_in}
use Rattle.topo_route.proofs.names.Canonical.{lawful_shown}
use Rattle.topo_route.proofs.names.Numbers.{next_permutes}
use Rattle.topo_route.proofs.names.Rounds.{round_all}
use Rattle.topo_route.proofs.names.Walking.{none_before}
use Rattle.topo_route.proofs.walks.has_tight_before.Goals as goal
use Rattle.topo_route.proofs.walks.has_tight_before.Goals.{else-dart-number-via-then-dart-number+else-is_tight, else-dart-number-via-else-dart-number}

pub returns-then-dart-at : goal.returns-then-dart-at
returns-then-dart-at g c =
    let rows = g.D.Dual.shows c.args.dual.now in
    let price = prices_of (g.F.PriceFn.may_return c.args.tariff.now) in
    let i = c.loop-steps._steps in
    let place = c.loop-steps.invariant.place in
    let home : next_of rows (after (next_of rows) i c.args.at) ≡ c.args.at = ap (next_of rows) (sym place) ∙ sym c.next_along-dart.ensures.next
    ∙ c.if-dart-at.true in
    let Free = λ (x : ℕ). x < c.args.number → IsTight price rows (height_in rows c.args.heights.now) (dart_of rows x) → ⊥ in
    let here : Free c.loop-steps.dart =
    grind (arith, else-dart-number-via-then-dart-number+else-is_tight, false≢true, else-dart-number-via-else-dart-number) in (
      λ w. absurd (false≢true w),
      λ before. absurd (none_before price rows c.args.heights.now c.args.at c.args.number i home c.loop-steps.invariant.none (subst Free place here) before),
    )

pub returns : goal.returns
returns g c =
    let rows = g.D.Dual.shows c.args.dual.now in
    let price = prices_of (g.F.PriceFn.may_return c.args.tariff.now) in
    let Free = λ (x : ℕ). x < c.args.number → IsTight price rows (height_in rows c.args.heights.now) (dart_of rows x) → ⊥ in (
      λ w. absurd (false≢true w),
      λ before.
          absurd (round_all (next_of rows) Free c.args.at (length (darts rows))
          (next_permutes rows (lawful_shown (g.met.D.Dual.numbered c.args.dual.now) (g.met.D.FaceGraph.lawful c.args.dual.now))) c.requires.within
          (λ j l. c.loop-steps.invariant.none j (omega arith)) before.dart before.face before.before before.tight),
    )
