-- Where no route is looked for.
use Rattle.std.specs.Prelude.{ℕ}
use Rattle.topo_core.specs.declared.rows.Rows.{Rows}
use Rattle.topo_core.specs.declared.calls.Refusal.{Refusal}
use Rattle.topo_core.specs.declared.calls.Refusal.TheVariants.{NoVertex, SameEnds, NoPosition, NoEdge, BadKind, Cut, Full, Memory, NoRoute}
use Rattle.topo_core.specs.Routes.{Pricing}
use Rattle.topo_picture.specs.Ends.{IsEndsRefusal}
use Rattle.topo_service.specs.Faults.{IsPlanRefusal}

pub ends_refused : (price : Pricing) (rows : Rows) (u v : ℕ) (why : Refusal) → IsEndsRefusal rows u v why → IsPlanRefusal price rows u v why
ends_refused price rows u v NoVertex h = h
ends_refused price rows u v SameEnds h = h
ends_refused price rows u v NoRoute h = absurd h
ends_refused price rows u v Memory h = absurd h
ends_refused price rows u v NoPosition h = h
ends_refused price rows u v NoEdge h = h
ends_refused price rows u v BadKind h = h
ends_refused price rows u v (Cut segment) h = h
ends_refused price rows u v Full h = h
