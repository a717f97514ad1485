-- From the tests to the verdict on a plan.
use Rattle.std.proofs.Common.{◌≡◌, ℕ, Bool, List, Some, refl, sym, ap, subst, ◌∙◌, arith}
use Rattle.std.specs.Prelude.{IsTrue, Result, Ok, Err, MatchResult, OnOk}
use Rattle.topo_core.specs.declared.darts.Dart.{Dart}
use Rattle.topo_core.specs.declared.rows.Rows.{Rows}
use Rattle.topo_core.specs.Lawful.{Lawful}
use Rattle.topo_core.specs.RouteLaws.{IsFirstByHeights, TakesFirstDarts, arrival}
use Rattle.topo_core.specs.Routes.{IsFirst, IsPricedRoute, KeepsPromise, Pricing}
use Rattle.topo_core.proofs.Interface.{certified, first_by_heights, route_bound}
use Rattle.topo_route.specs.declared.plan.Plan.{Plan}
use Rattle.topo_route.specs.declared.plan.PlanFault.{PlanFault}
use Rattle.topo_route.specs.declared.plan.PlanFault.TheVariants.{WrongLength, UnevenFace, TooSteep, TargetNotZero, NotARoute, NotLeast, NotFirst}
use Rattle.topo_route.specs.Plans.{ComesFirst, FailsFirst, HasFirstEnd, HasFirstStart, IsPlan, PassesAll, height_in}

module _ (price : Pricing) (rows : Rows) (u v : ℕ) (plan : Plan) where
  pub comes_first_by : (from last : Dart) {heights : List ℕ} {crossed : List Dart} (ends : Bool) → heights ≡ plan.heights → crossed ≡ plan.route.crossed
      → last ≡ arrival from crossed
      → HasFirstStart rows u heights plan.route.start plan.price → TakesFirstDarts price rows (height_in rows heights) from crossed
      → (IsTrue ends → HasFirstEnd rows v plan.route.end last) × (HasFirstEnd rows v plan.route.end last → IsTrue ends)
      → (IsTrue ends → ComesFirst price rows u v plan from) × (ComesFirst price rows u v plan from → IsTrue ends)
  comes_first_by from last {heights} {crossed} ends same_heights same_crossed arrives starts takes test =
      let reached : last ≡ arrival from plan.route.crossed = arrives ∙ ap (arrival from) same_crossed in (
        (λ w. record {
          first_start = subst (λ hs. HasFirstStart rows u hs plan.route.start plan.price) same_heights starts;
          first_darts = subst (λ hs. TakesFirstDarts price rows (height_in rows hs) from plan.route.crossed) same_heights
              (subst (TakesFirstDarts price rows (height_in rows heights) from) same_crossed takes);
          first_end = subst (HasFirstEnd rows v plan.route.end) reached (test.0 w);
        }),
        (λ first. test.1 (subst (HasFirstEnd rows v plan.route.end) (sym reached) first.first_end)),
      )

  -- a plan of a search passes
  pub plan_passes : Lawful rows → IsPlan price rows u v plan → PassesAll price rows u v plan
  plan_passes lawful is = record {
    one_each = is.heights.one_each;
    certificate = is.heights.certificate;
    least = record {
      position = plan.route.start;
      from = is.by_heights.priced.route.from;
      there = is.by_heights.priced.route.starts;
      is_height =
          let low = is.by_heights.least_height plan.route.start is.by_heights.priced.route.from is.by_heights.priced.route.starts in
          let high = route_bound price rows u v (height_in rows plan.heights)
          (certified price rows u v (height_in rows plan.heights) lawful.embedding.well_formed is.heights.certificate)
          plan.route plan.price is.by_heights.priced.route.from is.by_heights.priced is.by_heights.priced.route.starts in
          omega arith;
      least = is.by_heights.least_height;
    };
    priced = is.by_heights.priced;
    comes_first = record { first_start = is.by_heights.first_start; first_darts = is.by_heights.first_darts; first_end = is.by_heights.first_end };
  }

  -- a plan that passes is first
  pub passes_first : Lawful rows → KeepsPromise price → PassesAll price rows u v plan → IsFirst price rows u v plan.route plan.price
  passes_first lawful promise passes =
      let height = height_in rows plan.heights in
      let by_heights : IsFirstByHeights price rows u v height plan.route plan.price = record {
        priced = passes.priced;
        least_height = passes.least.least;
        first_start = passes.comes_first.first_start;
        first_darts = passes.comes_first.first_darts;
        first_end = passes.comes_first.first_end;
      } in
      first_by_heights price rows u v height (certified price rows u v height lawful.embedding.well_formed passes.certificate)
      (λ d p asked. promise.positive asked.facts p asked.asked) plan.route plan.price by_heights

  -- a route starts from one dart
  pub one_start : (a b : IsPricedRoute price rows u v plan.route plan.price) → a.route.from ≡ b.route.from
  one_start a b = let same : Some a.route.from ≡ Some b.route.from = sym a.route.starts ∙ b.route.starts in cc

  -- a plan that passes fails no test
  pub no_fault : PassesAll price rows u v plan → (fault : PlanFault) → FailsFirst price rows u v plan fault → ⊥
  no_fault passes WrongLength fails = fails passes.one_each
  no_fault passes UnevenFace fails = fails.1 passes.certificate.even
  no_fault passes TooSteep fails = fails.2 passes.certificate.gentle
  no_fault passes TargetNotZero fails = fails.3 passes.certificate.target
  no_fault passes NotARoute fails = fails.2 passes.priced
  no_fault passes NotLeast fails = fails.3 passes.least
  no_fault passes NotFirst fails = fails.4 (subst (ComesFirst price rows u v plan) (one_start passes.priced fails.3) passes.comes_first)

  pub first_verdict : Lawful rows → (result : Result Unit PlanFault) → OnOk result (KeepsPromise price)
      → MatchResult result (λ _. PassesAll price rows u v plan) (FailsFirst price rows u v plan)
      → OnOk result (IsFirst price rows u v plan.route plan.price)
  first_verdict lawful (Ok x) promise passes = passes_first lawful promise passes
  first_verdict lawful (Err e) promise fails = tt

  pub own_verdict : Lawful rows → (result : Result Unit PlanFault) → MatchResult result (λ _. PassesAll price rows u v plan) (FailsFirst price rows u v plan)
      → IsPlan price rows u v plan → result ≡ Ok tt
  own_verdict lawful (Ok x) passes is = refl
  own_verdict lawful (Err e) fails is = absurd (no_fault (plan_passes lawful is) e fails)
