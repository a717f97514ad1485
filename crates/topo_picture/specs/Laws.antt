-- Laws of pictures, each proved as the contract of a function without a body.
use Rattle.std.specs.Prelude.{◌≢◌, ◌<◌, ◌≤◌, ◌+◌, ◌↔◌, ◌≡◌, ℕ, true, is_some, length}
use Rattle.topo_core.specs.declared.limits.Limits.{Limits}
use Rattle.topo_core.specs.declared.rows.Rows.{Rows}
use Rattle.topo_core.specs.declared.routes.Route.{Route}
use Rattle.topo_core.specs.Changes.{IsCut, IsLocalCut, shown}
use Rattle.topo_core.specs.Picture.{edge_row}
use Rattle.topo_core.specs.Lawful.{Lawful}
use Rattle.topo_core.specs.Routes.{IsSimpleRoute}
use Rattle.topo_rows.specs.Shown.{IsPicture}
use Rattle.topo_core.specs.declared.rows.TheConstants.{KINDS}

-- a new edge shown along a route that meets no face twice makes a lawful picture of a lawful picture
abbrev pub InsertionKeepsLawful : Type 0
InsertionKeepsLawful = (rows : Rows) (u v kind : ℕ) (r : Route) → Lawful rows → u < length rows.rotations → v < length rows.rotations → u ≢ v → kind < KINDS
    → IsSimpleRoute rows u v r
    → rows.next_crossing + length r.crossed ≤ 4294967296 → Lawful (shown rows u v kind r)

-- the first segment of an edge with one face on both sides, when those before it are out, is the first without which the picture falls apart
abbrev pub CutsAgree : Type 0
CutsAgree = (limits : Limits) (rows : Rows) (e i : ℕ) → IsPicture limits rows → is_some (edge_row rows e) ≡ true → IsLocalCut rows e i ↔ IsCut rows e i
