-- An edge that is opened, by the halves of its path.
use Rattle.std.specs.Prelude.{◌≡◌, ◌<◌, ℕ, List, Some, true}
use Rattle.topo_core.specs.declared.darts.Dart.{Dart}
use Rattle.topo_core.specs.declared.rows.EdgeRow.{EdgeRow}
use Rattle.topo_core.specs.Lawful.{IsWellFormed}
use Rattle.topo_core.specs.Picture.{darts, edge_row, segment_count}
use Rattle.topo_core.specs.Systems.{has_dart}
use Rattle.topo_map.specs.Rotation.{Rotation}
use Rattle.topo_embedded.specs.Halves.{RowsWithPaths, ShowsRows, half_in, path_of}

-- of the segments of edge e, which has this path of halves, the first `out` are out, but not all
pub record IsOpenedOn (p : RowsWithPaths) (r : Rotation) (e out : ℕ) (path : List ℕ) : Type 0 where
  pub well_formed : IsWellFormed p.rows
  pub shows : ShowsRows p r
  pub row : EdgeRow
  pub there : edge_row p.rows e ≡ Some row
  pub inside : out < segment_count row
  pub own : path ≡ path_of p e

-- beside such an edge, a dart has this half
pub record IsDartBeside (p : RowsWithPaths) (r : Rotation) (e out : ℕ) (path : List ℕ) (half : ℕ) (d : Dart) : Type 0 where
  pub opened : IsOpenedOn p r e out path
  pub there : has_dart (darts p.rows) d ≡ true
  pub named : half ≡ half_in p d
