-- Where no crossing id is left.
use Rattle.std.specs.Prelude.{◌≢◌, ℕ, []}
use Rattle.topo_core.specs.declared.routes.Route.{Route}
use Rattle.topo_core.specs.declared.rows.Facts.{Facts}
use Rattle.topo_core.specs.declared.rows.Rows.{Rows}
use Rattle.topo_core.specs.Routes.{IsRoute, Pricing}

-- every edge that can be has a price
abbrev pub AreAllPriced : Pricing → Type 0
AreAllPriced price = (facts : Facts) → (n : ℕ) × price facts n

-- each route from u to v crosses something
abbrev pub CrossesAlways : Rows → ℕ → ℕ → Type 0
CrossesAlways rows u v = (r : Route) → IsRoute rows u v r → r.crossed ≢ []
