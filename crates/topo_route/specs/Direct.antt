-- Routes that cross nothing.
use Rattle.std.specs.Prelude.{◌≡◌, ℕ, ◌<◌, [], Some}
use Rattle.topo_core.specs.declared.darts.Dart.{Dart}
use Rattle.topo_core.specs.declared.routes.Route.{Route}
use Rattle.topo_core.specs.declared.rows.Rows.{Rows}
use Rattle.topo_core.specs.Picture.{corner}
use Rattle.topo_route.specs.Descents.{HasNoEnd, IsEnd}

-- a route from u to v that crosses nothing, and no other starts before it, or starts with it and ends before it
pub record IsFirstDirect (rows : Rows) (u v : ℕ) (r : Route) : Type 0 where
  pub from : Dart
  pub starts : corner rows u r.start ≡ Some from
  pub uncrossed : r.crossed ≡ []
  pub end : IsEnd rows v from r.end
  pub first : (p : ℕ) (c : Dart) → p < r.start → corner rows u p ≡ Some c → HasNoEnd rows v c
