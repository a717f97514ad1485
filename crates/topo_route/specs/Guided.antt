-- What a search that is guided to the start of a new edge knows where it ends.
use Rattle.std.specs.Prelude.{◌≡◌, ℕ, ◌+◌, ◌-◌, ◌<◌, ◌≤◌, List, Some, min, slice_index}
use Rattle.topo_core.specs.declared.darts.Dart.{Dart}
use Rattle.topo_core.specs.declared.routes.Route.{Route}
use Rattle.topo_core.specs.Picture.{corner}
use Rattle.topo_core.specs.Routes.{IsPricedRoute, Price, Pricing, unreached}
use Rattle.topo_route.specs.Names.{IsName, Named, dart_named, height_of, next_name, twin_name}
use Rattle.topo_route.specs.Plans.{IsZeroAt}
use Rattle.topo_route.specs.Settling.{AreCosts, IsSettled}

-- Numbers of darts that bound from below how far it is from their faces to u: 0 at u, the same along a face, and across a segment
-- they fall by no more than its price.
pub record AreBounds (price : Pricing) (g : Named) (u : ℕ) (bound : ℕ → ℕ) : Type 0 where
  pub at_start : (p : ℕ) (c : Dart) → corner g.rows u p ≡ Some c → bound (g.name c) ≡ 0
  pub even : (k : ℕ) → IsName g k → bound (next_name g k) ≡ bound k
  pub consistent : (k c : ℕ) → IsName g k → Price price g.rows (dart_named g k) c → bound k ≤ c + bound (twin_name g k)

-- Heights are costs of walks to v, and the least price of a route is known. Heights are final where they and their bounds make up
-- no more than that.
pub record Guides (price : Pricing) (g : Named) (u v : ℕ) (heights : List ℕ) (bound : ℕ → ℕ) (least : ℕ) : Type 0 where
  pub heights_cost : AreCosts price g v heights
  pub at_target : IsZeroAt g.rows v (height_of g heights)
  pub bounds : AreBounds price g u bound
  pub some : least < unreached
  pub known : (k : ℕ) → IsName g k → slice_index heights k + bound k ≤ least → IsSettled price g (least + 1) heights k
  pub route : (r : Route) × IsPricedRoute price g.rows u v r least

-- heights below this make up no more than the most with their bound
abbrev pub top_of_bound : (ℕ → ℕ) → ℕ → ℕ → ℕ
top_of_bound bound most k = min (most + 1) unreached - bound k
