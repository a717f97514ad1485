-- What a picture shows, and what is true of it at all times.
use Rattle.std.specs.Prelude.{◌≤◌, length}
use Rattle.topo_core.specs.declared.rows.Rows.{Rows}
use Rattle.topo_core.specs.declared.limits.Limits.{Limits}
use Rattle.topo_core.specs.Lawful.{Lawful}

-- a picture's rows and how large they may grow
pub record Shown : Type 0 where
  pub limits : Limits
  pub rows : Rows

-- the rows are a lawful picture, and the counts are within the limits
pub record IsPicture (limits : Limits) (rows : Rows) : Type 0 where
  pub lawful : Lawful rows
  pub vertices : length rows.rotations ≤ limits.vertices
  pub edges : rows.next_edge ≤ limits.edges
  pub crossings : rows.next_crossing ≤ limits.crossings
