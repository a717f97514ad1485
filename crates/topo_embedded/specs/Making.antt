-- How the halves of rows are made.
use Rattle.std.specs.Prelude.{◌≡◌, ℕ, ◌+◌, ◌*◌, ◌<◌, List, [], length, flat_map, replicate, slice_get, slice_index, slice_index_or, Some}
use Rattle.topo_core.specs.declared.rows.EdgeRow.{EdgeRow}
use Rattle.topo_core.specs.Picture.{segment_count}

-- for each segment the id of its edge
abbrev pub labels_of : List EdgeRow → List ℕ
labels_of edges = flat_map (λ row. replicate (segment_count row) row.id) edges

-- of so many segments, the first of which begins at a place, each first half
pub record IsPathOf (halves : List ℕ) (begin many : ℕ) (path : List ℕ) : Type 0 where
  pub as_many : length path ≡ many
  pub each : (i : ℕ) → i < many → slice_index path i ≡ slice_index halves (begin + 2 * i)

-- the paths of the edges before k, which begin as said
pub record ArePathsOf (edges : List EdgeRow) (begins halves : List ℕ) (k : ℕ) (paths : List (List ℕ)) : Type 0 where
  pub as_many : length paths ≡ k
  pub each : (i : ℕ) (row : EdgeRow) → i < k → slice_get edges i ≡ Some row
      → IsPathOf halves (slice_index begins i) (segment_count row) (slice_index_or paths i [])
