-- A route that is the first where no edge may be crossed is the first at all prices.
use Rattle.std.proofs.Common.{◌≡◌, ◌<◌, ◌+◌, ℕ, List, [], ◌∷◌, Option, Some, None, Result, Ok, Err, IfOk, MatchOption, refl, sym, subst, arith, inl, inr}
use Rattle.std.proofs.lemmas.Bool.{cases_eq}
use Rattle.topo_core.specs.declared.darts.Dart.{Dart}
use Rattle.topo_core.specs.declared.routes.Route.{Route}
use Rattle.topo_core.specs.declared.rows.Facts.{Facts}
use Rattle.topo_core.specs.declared.rows.Rows.{Rows}
use Rattle.topo_core.specs.Routes.{Costs, HasNoRoute, IsFirst, IsPricedRoute, KeepsPromise, Pricing}
use Rattle.topo_route.specs.declared.plan.PricedRoute.{PricedRoute}
use Rattle.topo_book.specs.Fullness.{CrossesAlways}

-- what is known of all kinds below one, and of that one
pub one_kind_more : (price : Pricing) (kind n : ℕ) → ((facts : Facts) → facts.kind < kind → (n : ℕ) × price facts n)
    → ((facts : Facts) → facts.kind ≡ kind → price facts n) → (facts : Facts) → facts.kind < kind + 1 → (n : ℕ) × price facts n
one_kind_more price kind n below here facts low = elim (cases_eq facts.kind kind) [
  | inl same ↦ (n, here facts same)
  | inr other ↦ below facts (omega arith)
]

module _ (price closed : Pricing) (promise : KeepsPromise price) (none : (facts : Facts) (n : ℕ) → closed facts n → ⊥) (rows : Rows) (u v : ℕ) where
  uncrossed : (xs : List Dart) (n : ℕ) → Costs closed rows xs n → (xs ≡ []) × (n ≡ 0)
  uncrossed [] n cost = (refl, cost)
  uncrossed (x ∷ xs) n cost = absurd (none cost.2.facts cost.0 cost.2.asked)

  for_nothing : (xs : List Dart) → Costs price rows xs 0 → xs ≡ []
  for_nothing [] cost = refl
  for_nothing (x ∷ xs) cost =
      let one = promise.positive cost.2.facts cost.0 cost.2.asked in
      let sum = cost.4 in
      absurd (omega arith)

  free : (P : Pricing) (xs : List Dart) → xs ≡ [] → Costs P rows xs 0
  free P xs e = subst (λ xs. Costs P rows xs 0) (sym e) refl

  first_at_all : (r : Route) (n : ℕ) → IsFirst closed rows u v r n → IsFirst price rows u v r n
  first_at_all r n first =
      let e = uncrossed r.crossed n first.is_least.priced.cost in
      subst (IsFirst price rows u v r) (sym e.1) (record {
        is_least = record {
          priced = record { route = first.is_least.priced.route; cost = free price r.crossed e.0 };
          least = λ other m h. omega arith;
        };
        first = λ other h. first.first other (subst (IsPricedRoute closed rows u v other) (sym e.1)
            (record { route = h.route; cost = free closed other.crossed (for_nothing other.crossed h.cost) }));
      })

  always : HasNoRoute closed rows u v → CrossesAlways rows u v
  always nowhere r route e = nowhere r 0 (record { route = route; cost = free closed r.crossed e })

  pub first_found : {E : Type 0} (result : Result (Option PricedRoute) E)
      → IfOk result (λ found. MatchOption found (HasNoRoute closed rows u v) (λ r. IsFirst closed rows u v r.route r.price))
      → IfOk result (λ found. MatchOption found (CrossesAlways rows u v) (λ r. IsFirst price rows u v r.route r.price))
  first_found (Ok None) found = always found
  first_found (Ok (Some r)) found = first_at_all r.route r.price found
  first_found (Err e) found = tt
