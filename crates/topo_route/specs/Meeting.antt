-- What a search from both ends of a new edge knows where the two meet.
use Rattle.std.specs.Prelude.{ℕ, ◌+◌, ◌<◌, ◌≤◌, List, slice_index}
use Rattle.topo_core.specs.declared.routes.Route.{Route}
use Rattle.topo_core.specs.Routes.{IsPricedRoute, Pricing, unreached}
use Rattle.topo_route.specs.Names.{IsName, Named, height_of}
use Rattle.topo_route.specs.Plans.{IsZeroAt}
use Rattle.topo_route.specs.PricedFaces.{PricedFaces, heights_over}
use Rattle.topo_route.specs.Settling.{AreCosts, AreSums, IsSettled, SpreadsTo, reach_of}

-- Heights are costs of walks to v and distances costs of walks to u, which are those from u, since a segment costs the same
-- both ways. The least sum of the two is the least price of a route. Heights below the level are final; so are distances that
-- make up no more than the least price with the level, and the heights of all darts on least routes.
pub record Meets (price : Pricing) (g : Named) (u v : ℕ) (heights distances : List ℕ) (level least : ℕ) : Type 0 where
  pub heights_cost : AreCosts price g v heights
  pub distances_cost : AreCosts price g u distances
  pub at_target : IsZeroAt g.rows v (height_of g heights)
  pub at_start : IsZeroAt g.rows u (height_of g distances)
  pub positive : 0 < level
  pub within : level ≤ least + 1
  pub some : least < unreached
  pub sums : (k : ℕ) → IsName g k → least ≤ slice_index heights k + slice_index distances k
  pub below : (k : ℕ) → IsName g k → slice_index heights k < level → IsSettled price g (least + 1) heights k
  pub along : (k : ℕ) → IsName g k → slice_index heights k + slice_index distances k ≤ least → IsSettled price g (least + 1) heights k
  pub near : (k : ℕ) → IsName g k → slice_index distances k + level ≤ least → IsSettled price g (least + 1) distances k
  pub route : (r : Route) × IsPricedRoute price g.rows u v r least

-- heights spread from v and distances from u, as far as the least sum of the two reaches
pub record SpreadsBoth (seen : PricedFaces) (u v : ℕ) (heights names waiting distances names' coming : List ℕ)
    (least : ℕ) : Type 0 where
  pub on : SpreadsTo seen v (reach_of least) heights names waiting
  pub back : SpreadsTo seen u (reach_of least) distances names' coming
  pub sums : AreSums seen.named (heights_over seen heights) (heights_over seen distances) least
  pub at_target : IsZeroAt seen.named.rows v (height_of seen.named (heights_over seen heights))
  pub at_start : IsZeroAt seen.named.rows u (height_of seen.named (heights_over seen distances))

-- Where the two ends have met, the level is no higher than the least price, unless that is 0.
pub record HasMet (price : Pricing) (g : Named) (u v : ℕ) (heights distances : List ℕ) (level least : ℕ) : Type 0 where
  pub meets : least < unreached → Meets price g u v heights distances level least
  pub within : 0 < least → level ≤ least
