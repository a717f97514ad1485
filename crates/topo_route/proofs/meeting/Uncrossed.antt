-- A route that crosses nothing costs nothing, and the first of them is the first of the least.
use Rattle.std.proofs.Common.{◌≡◌, ◌≢◌, ℕ, ◌≤◌, List, [], ◌∷◌, Some, refl, arith}
use Rattle.std.specs.declared.cmp.Ordering.TheVariants.{Greater}
use Rattle.std.proofs.lemmas.Bool.{cases_eq, cases_lt}
use Rattle.topo_core.specs.declared.darts.Dart.{Dart}
use Rattle.topo_core.specs.declared.routes.Route.{Route}
use Rattle.topo_core.specs.declared.rows.Rows.{Rows}
use Rattle.topo_core.specs.Routes.{Costs, IsFirst, KeepsPromise, Pricing, route_cmp}
use Rattle.topo_core.proofs.Interface.{nat_cmp_self, not_above, start_before}
use Rattle.topo_route.specs.Direct.{IsFirstDirect}

one_dart : (o p : Dart) → Some o ≡ Some p → o ≡ p
one_dart o p e = cc

by_ends : (r s : Route) → r.start ≡ s.start → r.crossed ≡ [] → s.crossed ≡ [] → r.end ≤ s.end → route_cmp r s ≢ Greater
by_ends r s starts mine theirs ends e = grind (arith, nat_cmp_self, not_above)

module _ (price : Pricing) (promise : KeepsPromise price) (rows : Rows) (u v : ℕ) where
  -- what costs nothing crosses nothing
  free : (xs : List Dart) → Costs price rows xs 0 → xs ≡ []
  free [] cost = refl
  free (x ∷ xs) cost = grind arith

  pub first_direct : (r : Route) → IsFirstDirect rows u v r → IsFirst price rows u v r 0
  first_direct r direct = grind (arith, free, cases_lt, cases_eq, one_dart, by_ends, start_before)
