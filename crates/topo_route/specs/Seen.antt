-- What the region of a search from both ends holds.
use Rattle.std.specs.Prelude.{◌≡◌, ℕ, ◌+◌, ◌-◌, ◌<◌, ◌≤◌, true, List, slice_index}
use Rattle.topo_core.specs.declared.routes.Route.{Route}
use Rattle.topo_core.specs.RouteLaws.{IsFirstByHeights}
use Rattle.topo_core.specs.Routes.{Pricing}
use Rattle.topo_route.specs.FaceHeights.{AreLabelled}
use Rattle.topo_route.specs.Meeting.{HasMet}
use Rattle.topo_route.specs.Names.{IsName, Named, dart_named, height_of}
use Rattle.topo_route.specs.Regions.{IsRegionOf, RegionState, holds_edge}

-- the edges that one region holds are in the other
pub record HoldsMore (before after : RegionState) : Type 0 where
  pub edges : (e : ℕ) → holds_edge before e ≡ true → holds_edge after e ≡ true

-- it holds the edge of each dart that is lower than the bound
abbrev pub HoldsBelow : Named → List ℕ → ℕ → RegionState → Type 0
HoldsBelow g heights bound region = (k : ℕ) → IsName g k → slice_index heights k < bound → holds_edge region (dart_named g k).edge ≡ true

-- The region of a search from both ends that have met: the edges of all darts that are lower than the level, and of those whose
-- distance makes up no more than the least price with the level.
pub record HoldsSeen (g : Named) (heights distances : List ℕ) (level least : ℕ) (region : RegionState) : Type 0 where
  pub of_rows : IsRegionOf g.rows region
  pub near_target : HoldsBelow g heights level region
  pub near_start : HoldsBelow g distances (least + 1 - level) region

-- where a search from both ends has stopped
pub record HasSeen (g : Named) (face : ℕ → ℕ) (faces : ℕ) (heights names distances names' : List ℕ) (level least : ℕ) : Type 0 where
  pub to_end : AreLabelled g face faces heights names
  pub to_start : AreLabelled g face faces distances names'
  pub within : 0 < least → level ≤ least

-- what a search knows of the route that it has found
pub record RestsOn (price : Pricing) (g : Named) (u v : ℕ) (heights distances : List ℕ) (level least : ℕ) (r : Route) (p : ℕ) : Type 0 where
  pub met : HasMet price g u v heights distances level least
  pub first : IsFirstByHeights price g.rows u v (height_of g heights) r p
