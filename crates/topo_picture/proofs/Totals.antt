-- What a picture's size rests on: each crossing stands on two paths, and Euler's formula.
use Rattle.std.proofs.Common.{◌≡◌, ◌+◌, ◌-◌, ◌*◌, ◌≤◌, arith, length, ℕ}
use Rattle.std.specs.Prelude.{sum_by}
use Rattle.std.proofs.lemmas.List.{length-map}
use Rattle.topo_core.specs.declared.limits.Limits.{Limits}
use Rattle.topo_core.specs.declared.rows.Rows.{Rows}
use Rattle.topo_core.specs.Picture.{face_count, segment_count}
use Rattle.topo_core.proofs.Interface.{left_true}
use Rattle.topo_rows.specs.Shown.{IsPicture}
use Rattle.topo_picture.specs.Totals.{AreCountsOf}
use Rattle.topo_rows.proofs.Interface.{few_rise}
use Rattle.topo_kept_rows.proofs.Interface.{segments_total}

-- the sizes of a picture, and how they hang together
pub record IsCounted (rows : Rows) : Type 0 where
  pub segments : sum_by segment_count rows.edges ≡ length rows.edges + 2 * length rows.crossings
  pub euler : length rows.rotations + length rows.crossings + face_count rows ≡ sum_by segment_count rows.edges + 2
  pub vertices : length rows.rotations ≤ 65536
  pub edges : length rows.edges ≤ 65536
  pub crossings : length rows.crossings ≤ 1048576

pub counted : (limits : Limits) (rows : Rows) → IsPicture limits rows → IsCounted rows
counted limits rows is = grind (arith, left_true, few_rise, length-map, segments_total)

-- the counts that follow from those of vertices, crossings and edges
pub counts_are : (rows : Rows) (vertices crossings edges : ℕ) → IsCounted rows → vertices ≡ length rows.rotations → crossings ≡ length rows.crossings
    → edges ≡ length rows.edges
    → AreCountsOf rows (record {
      vertices = vertices;
      crossings = crossings;
      edges = edges;
      segments = edges + 2 * crossings;
      faces = edges + 2 * crossings + 2 - (vertices + crossings);
    })
counts_are rows vertices crossings edges size v x e = grind arith
