-- How many vertices, crossings, edges, segments and faces there are.
use Rattle.std.specs.Prelude.{◌≡◌, ℕ, length, sum_by}
use Rattle.topo_core.specs.declared.limits.Limits.{Limits}
use Rattle.topo_core.specs.declared.rows.Rows.{Rows}
use Rattle.topo_core.specs.Picture.{face_count, segment_count}
use Rattle.topo_rows.specs.Shown.{IsPicture}
use Rattle.topo_picture.specs.declared.counts.Counts.{Counts}

-- the counts are those of the rows
pub record AreCountsOf (rows : Rows) (counts : Counts) : Type 0 where
  pub vertices : counts.vertices ≡ length rows.rotations
  pub crossings : counts.crossings ≡ length rows.crossings
  pub edges : counts.edges ≡ length rows.edges
  pub segments : counts.segments ≡ sum_by segment_count rows.edges
  pub faces : counts.faces ≡ face_count rows

-- the rows are a picture within some limits, and have so many vertices, crossings and edges
pub record HasTotals (rows : Rows) (vertices crossings edges : ℕ) : Type 0 where
  pub limits : Limits
  pub picture : IsPicture limits rows
  pub vertices_are : vertices ≡ length rows.rotations
  pub crossings_are : crossings ≡ length rows.crossings
  pub edges_are : edges ≡ length rows.edges
