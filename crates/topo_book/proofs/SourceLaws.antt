-- Where nothing is brought along.
use Rattle.topo_core.specs.declared.rows.Rows.{Rows}
use Rattle.topo_core.specs.declared.calls.Call.{Call}
use Rattle.topo_core.specs.declared.calls.Call.TheVariants.{Delete, Grow, Insert}
use Rattle.topo_core.specs.Routes.{Pricing}
use Rattle.topo_book.specs.declared.route_source.RouteSource.TheVariants.{Search}
use Rattle.topo_book.specs.RouteSources.{IsSourceFor}

pub nothing_is_owed : (price : Pricing) (rows : Rows) (call : Call) → IsSourceFor price rows call Search
nothing_is_owed price rows (Insert u v kind) = tt
nothing_is_owed price rows (Grow u position kind) = tt
nothing_is_owed price rows (Delete e) = tt
