-- A deletion of the edge that was shown last.
use Rattle.std.specs.Prelude.{◌≡◌, ℕ}
use Rattle.topo_core.specs.declared.rows.Rows.{Rows}
use Rattle.topo_core.specs.declared.routes.Route.{Route}
use Rattle.topo_core.specs.Changes.{shown}
use Rattle.topo_core.specs.Insertions.{IsInsertable}
use Rattle.topo_core.specs.Lawful.{Lawful}

-- the rows are those of the lawful picture p with this edge shown along a route that crosses no segment twice
pub record IsShownOn (p rows : Rows) (e : ℕ) : Type 0 where
  pub lawful : Lawful p
  pub u : ℕ
  pub v : ℕ
  pub kind : ℕ
  pub route : Route
  pub insertable : IsInsertable p u v kind route
  pub rows_are : rows ≡ shown p u v kind route
  pub newest : e ≡ p.next_edge
