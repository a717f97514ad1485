-- The halves of the darts of rows.
use Rattle.std.specs.Prelude.{◌≡◌, ℕ, ◌==◌, ◌||◌, Bool, true, List, [], length, slice_get, slice_index_or, Some, unwrap_or}
use Rattle.std.specs.List.{position_or_len}
use Rattle.topo_core.specs.declared.darts.Dart.{Dart}
use Rattle.topo_core.specs.declared.darts.Way.{Way}
use Rattle.topo_core.specs.declared.darts.Way.TheVariants.{Forward, Back}
use Rattle.topo_core.specs.declared.rows.EdgeRow.{EdgeRow}
use Rattle.topo_core.specs.declared.rows.Rows.{Rows}
use Rattle.topo_core.specs.Cycles.{map_of}
use Rattle.topo_core.specs.Picture.{darts, segment_count, turn_images}
use Rattle.topo_core.specs.Rotations.{twin}
use Rattle.topo_core.specs.Systems.{has_dart}
use Rattle.topo_perm.specs.Renumbering.{RenumbersTurn}
use Rattle.topo_map.specs.Rotation.{Rotation, edge_of, half_limit, is_live, turn}

-- rows, and for each edge, by its place among the edges, a half on each segment of its path, which leads along the edge
pub record RowsWithPaths : Type 0 where
  pub rows : Rows
  pub paths : List (List ℕ)

abbrev pub by_way : ℕ → Way → ℕ
by_way h Forward = h
by_way h Back = twin h

-- whether a half is one of the two of a segment, given by either of them
abbrev pub on_segment : ℕ → ℕ → Bool
on_segment of h = h == of || h == twin of

-- the halves along an edge
abbrev pub path_of : RowsWithPaths → ℕ → List ℕ
path_of p e = slice_index_or p.paths (position_or_len (λ row. row.id == e) p.rows.edges) []

-- the half of a dart
abbrev pub half_in : RowsWithPaths → Dart → ℕ
half_in p d = by_way (slice_index_or (path_of p d.edge) d.seg 0) d.way

-- the half of the dart with this canonical number
abbrev pub half_at : RowsWithPaths → ℕ → ℕ
half_at p a = half_in p (unwrap_or (slice_get (darts p.rows) a) (record { edge = 0; seg = 0; way = Forward }))

-- the halves turn as the darts do, lie on the edges of their darts, and are all that there are
pub record ShowsRows (p : RowsWithPaths) (r : Rotation) : Type 0 where
  pub as_many : length p.paths ≡ length p.rows.edges
  pub along : (k : ℕ) (row : EdgeRow) → slice_get p.rows.edges k ≡ Some row → length (slice_index_or p.paths k []) ≡ segment_count row
  pub back : ℕ → ℕ
  pub renumbers : RenumbersTurn (half_at p) back (map_of (turn_images p.rows)) (turn r) (length (turn_images p.rows)) (is_live r) half_limit
  pub labels : (d : Dart) → has_dart (darts p.rows) d ≡ true → edge_of r (half_in p d) ≡ d.edge

-- h is the half of some dart
pub record IsHalf (p : RowsWithPaths) (h : ℕ) : Type 0 where
  pub dart : Dart
  pub there : has_dart (darts p.rows) dart ≡ true
  pub is : half_in p dart ≡ h
