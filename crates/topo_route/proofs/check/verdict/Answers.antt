use Rattle.std.proofs.Common.{◌∙◌, List, ℕ, sym, subst, arith}
use Rattle.std.proofs.lemmas.Bool.{false≢true}
use Rattle.topo_price.specs.Prices.{prices_of}
use Rattle.topo_route.specs.Plans.{ComesFirst, HasOneEach, IsEven, IsGentle, IsLeastHeight, MeetsTarget}
use Rattle.topo_route.proofs.check.verdict.Goals as goal

pub returns-then-not-is_gentle-clause-verdict : goal.returns-then-not-is_gentle-clause-verdict
returns-then-not-is_gentle-clause-verdict g c =
    let rows = g.D.Dual.shows c.args.dual.now in
    let price = prices_of (g.F.PriceFn.may_return c.args.tariff.now) in
    let same = c.as_slice-heights.ensures in (
      subst (HasOneEach rows) same (omega arith),
      subst (IsEven rows) same (c.is_even.ensures.0 c.if-not-is_even.false),
      λ gentle. false≢true (sym c.if-not-is_gentle.true ∙ c.is_gentle.ensures.gentle.1 (subst (IsGentle price rows) (sym same) gentle)),
    )

pub returns-then-not-meets_target-clause-verdict : goal.returns-then-not-meets_target-clause-verdict
returns-then-not-meets_target-clause-verdict g c =
    let rows = g.D.Dual.shows c.args.dual.now in
    let price = prices_of (g.F.PriceFn.may_return c.args.tariff.now) in
    let same = c.as_slice-heights.ensures in (
      subst (HasOneEach rows) same (omega arith),
      subst (IsEven rows) same (c.is_even.ensures.0 c.if-not-is_even.false),
      subst (IsGentle price rows) same (c.is_gentle.ensures.gentle.0 c.if-not-is_gentle.false),
      λ meets. false≢true (sym c.if-not-meets_target.true ∙ c.meets_target.ensures.1 (subst (MeetsTarget rows c.args.v) (sym same) meets)),
    )

pub returns-then-not-is_least_height-clause-verdict : goal.returns-then-not-is_least_height-clause-verdict
returns-then-not-is_least_height-clause-verdict g c =
    let rows = g.D.Dual.shows c.args.dual.now in
    let price = prices_of (g.F.PriceFn.may_return c.args.tariff.now) in
    let same = c.as_slice-heights.ensures in
    let Least = λ (hs : List ℕ). IsLeastHeight rows c.args.u hs c.args.plan.now.price in (
      subst (HasOneEach rows) same (omega arith),
      record {
        even = subst (IsEven rows) same (c.is_even.ensures.0 c.if-not-is_even.false);
        gentle = subst (IsGentle price rows) same (c.is_gentle.ensures.gentle.0 c.if-not-is_gentle.false);
        target = subst (MeetsTarget rows c.args.v) same (c.meets_target.ensures.0 c.if-not-meets_target.false);
      },
      c.in-Some.ensures.1,
      λ least. false≢true (sym c.if-not-is_least_height.true ∙ c.is_least_height.ensures.1 (subst Least (sym same) least)),
    )

pub returns-then-not-comes_first-clause-verdict : goal.returns-then-not-comes_first-clause-verdict
returns-then-not-comes_first-clause-verdict g c =
    let rows = g.D.Dual.shows c.args.dual.now in
    let price = prices_of (g.F.PriceFn.may_return c.args.tariff.now) in
    let same = c.as_slice-heights.ensures in
    let Least = λ (hs : List ℕ). IsLeastHeight rows c.args.u hs c.args.plan.now.price in (
      subst (HasOneEach rows) same (omega arith),
      record {
        even = subst (IsEven rows) same (c.is_even.ensures.0 c.if-not-is_even.false);
        gentle = subst (IsGentle price rows) same (c.is_gentle.ensures.gentle.0 c.if-not-is_gentle.false);
        target = subst (MeetsTarget rows c.args.v) same (c.meets_target.ensures.0 c.if-not-meets_target.false);
      },
      subst Least same (c.is_least_height.ensures.0 c.if-not-is_least_height.false),
      c.in-Some.ensures.1,
      λ first. false≢true (sym c.if-not-comes_first.true
          ∙ c.comes_first.ensures.1 (subst (ComesFirst price rows c.args.u c.args.v c.args.plan.now) c.in-Some.ensures.2 first)),
    )

pub returns-else-not-comes_first-clause-verdict : goal.returns-else-not-comes_first-clause-verdict
returns-else-not-comes_first-clause-verdict g c =
    let rows = g.D.Dual.shows c.args.dual.now in
    let price = prices_of (g.F.PriceFn.may_return c.args.tariff.now) in
    let same = c.as_slice-heights.ensures in
    let Least = λ (hs : List ℕ). IsLeastHeight rows c.args.u hs c.args.plan.now.price in
    record {
      one_each = subst (HasOneEach rows) same (omega arith);
      certificate = record {
        even = subst (IsEven rows) same (c.is_even.ensures.0 c.if-not-is_even.false);
        gentle = subst (IsGentle price rows) same (c.is_gentle.ensures.gentle.0 c.if-not-is_gentle.false);
        target = subst (MeetsTarget rows c.args.v) same (c.meets_target.ensures.0 c.if-not-meets_target.false);
      };
      least = subst Least same (c.is_least_height.ensures.0 c.if-not-is_least_height.false);
      priced = c.in-Some.ensures.1;
      comes_first = subst (ComesFirst price rows c.args.u c.args.v c.args.plan.now) (sym c.in-Some.ensures.2)
          (c.comes_first.ensures.0 c.if-not-comes_first.false);
    }

pub returns-in-None-clause-verdict : goal.returns-in-None-clause-verdict
returns-in-None-clause-verdict g c =
    let rows = g.D.Dual.shows c.args.dual.now in
    let price = prices_of (g.F.PriceFn.may_return c.args.tariff.now) in
    let same = c.as_slice-heights.ensures in (
      subst (HasOneEach rows) same (omega arith),
      record {
        even = subst (IsEven rows) same (c.is_even.ensures.0 c.if-not-is_even.false);
        gentle = subst (IsGentle price rows) same (c.is_gentle.ensures.gentle.0 c.if-not-is_gentle.false);
        target = subst (MeetsTarget rows c.args.v) same (c.meets_target.ensures.0 c.if-not-meets_target.false);
      },
      c.in-None.ensures,
    )
