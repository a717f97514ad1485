-- A route that was found on a version.
use Rattle.std.specs.Prelude.{◌≡◌, ℕ, List}
use Rattle.topo_core.specs.declared.rows.Rows.{Rows}
use Rattle.topo_core.specs.declared.routes.Route.{Route}
use Rattle.topo_core.specs.declared.calls.Entry.{Entry}
use Rattle.topo_core.specs.History.{IsVersion}
use Rattle.topo_core.specs.Routes.{IsFirst, Pricing}
use Rattle.topo_route.specs.Regions.{IsFirstWhileKept, IsRegionOf, RegionState}
use Rattle.topo_rows.specs.Shown.{Shown}

-- the route from u to v with its price, and the accepted entries that lead to the picture on which it was found
pub record FoundState : Type 0 where
  pub u : ℕ
  pub v : ℕ
  pub route : Route
  pub price : ℕ
  pub entries : List Entry

-- the entries lead from the start to a picture on which the route is the first
pub record IsFoundRoute (price : Pricing) (start : Shown) (found : FoundState) : Type 0 where
  pub picture : Rows
  pub replayed : IsVersion price start.limits start.rows found.entries picture
  pub first : IsFirst price picture found.u found.v found.route found.price

-- a route that was found from u to v, on the picture after what was seen
pub record IsFoundFor (price : Pricing) (start : Shown) (seen : List Entry) (u v : ℕ) (found : FoundState) : Type 0 where
  pub from : found.u ≡ u
  pub to : found.v ≡ v
  pub entries : found.entries ≡ seen
  pub first : IsFoundRoute price start found

-- a region of the picture, and while it is kept the route is the first
abbrev pub IsHeldBy : Pricing → Rows → ℕ → ℕ → Route → ℕ → RegionState → Type 0
IsHeldBy price picture u v route cost region = IsRegionOf picture region × IsFirstWhileKept price picture u v region route cost
