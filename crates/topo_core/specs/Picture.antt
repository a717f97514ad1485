-- The rotation system of a picture's rows.
use Rattle.std.specs.Prelude.{◌≡◌, ◌<◌, ℕ, ◌+◌, ◌==◌, cond, List, [], ◌∷◌, ◌++◌, map, flat_map}
use Rattle.std.specs.Prelude.{find, length, slice_get, slice_index_or, Option, Some, unwrap_or}
use Rattle.std.specs.List.{range_with_len, position_or_len}
use Rattle.topo_core.specs.declared.darts.Dart.{Dart}
use Rattle.topo_core.specs.declared.darts.Way.{Way}
use Rattle.topo_core.specs.declared.darts.Way.TheVariants.{Forward, Back}
use Rattle.topo_core.specs.declared.darts.Point.{Point}
use Rattle.topo_core.specs.declared.darts.Point.TheVariants.{Vertex, Crossing}
use Rattle.topo_core.specs.declared.darts.Sign.{Sign}
use Rattle.topo_core.specs.declared.darts.Sign.TheVariants.{LeftToRight, RightToLeft}
use Rattle.topo_core.specs.declared.rows.Rows.{Rows}
use Rattle.topo_core.specs.declared.rows.EdgeRow.{EdgeRow}
use Rattle.topo_core.specs.declared.rows.CrossRow.{CrossRow}
use Rattle.topo_core.specs.Darts.{both_ways, same_dart}
use Rattle.topo_core.specs.Rotations.{faces_of}
use Rattle.topo_core.specs.Systems.{System, turn}

-- ---- What the rows name

abbrev pub vertices : Rows → List ℕ
vertices rows = range_with_len 0 (length rows.rotations)

-- the edges round a vertex, clockwise; none where it is no vertex
abbrev pub rotation : Rows → ℕ → List ℕ
rotation rows v = slice_index_or rows.rotations v []

abbrev pub edge_row : Rows → ℕ → Option EdgeRow
edge_row rows e = find (λ row. row.id == e) rows.edges

abbrev pub cross_row : Rows → ℕ → Option CrossRow
cross_row rows x = find (λ row. row.id == x) rows.crossings

-- the row of an edge that is there, and else an empty one
abbrev pub edge_at : Rows → ℕ → EdgeRow
edge_at rows e = unwrap_or (edge_row rows e) (record { id = e; a = 0; b = 0; kind = 0; crossings = [] })

-- ---- Segments and darts

-- an edge has one segment more than crossings
abbrev pub segment_count : EdgeRow → ℕ
segment_count row = length row.crossings + 1

-- the darts of an edge, and of all edges, in canonical order
abbrev pub darts_of : EdgeRow → List Dart
darts_of row = flat_map (both_ways row.id) (range_with_len 0 (segment_count row))

abbrev pub darts : Rows → List Dart
darts rows = flat_map darts_of rows.edges

-- d is a dart of the picture
abbrev pub IsDart : Rows → Dart → Type 0
IsDart rows d = (row : EdgeRow) × (edge_row rows d.edge ≡ Some row) × (d.seg < segment_count row)

-- the points along an edge, from end to end
abbrev pub points_of : EdgeRow → List Point
points_of row = Vertex row.a ∷ map Crossing row.crossings ++ Vertex row.b ∷ []

-- which point of its edge a dart of segment s starts at
abbrev pub start_place : ℕ → Way → ℕ
start_place s Forward = s
start_place s Back = s + 1

-- where a dart starts
abbrev pub start : Rows → Dart → Point
start rows d = slice_index_or (points_of (edge_at rows d.edge)) (start_place d.seg d.way) (Vertex 0)

-- ---- The darts round each point, clockwise

-- the dart of edge e that starts at its end v
abbrev pub end_dart : Rows → ℕ → ℕ → Dart
end_dart rows v e = let row = edge_at rows e in
    cond (row.a == v) (record { edge = e; seg = 0; way = Forward }) (record { edge = e; seg = length row.crossings; way = Back })

abbrev pub around_vertex : Rows → ℕ → List Dart
around_vertex rows v = map (end_dart rows v) (rotation rows v)

-- the place of a crossing on the path of edge e
abbrev pub place_on : Rows → ℕ → ℕ → ℕ
place_on rows e x = position_or_len (λ y. y == x) (edge_at rows e).crossings

-- the darts of edge e that start at its crossing x
abbrev pub ahead : Rows → ℕ → ℕ → Dart
ahead rows e x = record { edge = e; seg = place_on rows e x + 1; way = Forward }

abbrev pub behind : Rows → ℕ → ℕ → Dart
behind rows e x = record { edge = e; seg = place_on rows e x; way = Back }

-- the crossed edge ahead, then the newcomer on the side that the sign says
abbrev pub clockwise : Sign → Dart → Dart → Dart → Dart → List Dart
clockwise LeftToRight crossed_ahead crossed_behind newcomer_ahead newcomer_behind = crossed_ahead ∷ newcomer_ahead ∷ crossed_behind ∷ newcomer_behind ∷ []
clockwise RightToLeft crossed_ahead crossed_behind newcomer_ahead newcomer_behind = crossed_ahead ∷ newcomer_behind ∷ crossed_behind ∷ newcomer_ahead ∷ []

abbrev pub around_crossing : Rows → CrossRow → List Dart
around_crossing rows x = clockwise x.sign (ahead rows x.crossed x.id) (behind rows x.crossed x.id) (ahead rows x.newcomer x.id) (behind rows x.newcomer x.id)

-- the vertices first, and then the crossings
abbrev pub system : Rows → System
system rows = map (around_vertex rows) (vertices rows) ++ map (around_crossing rows) rows.crossings

-- ---- Corners

-- the corner before entry p of a vertex's list, named by that entry's dart, in whose face it lies
abbrev pub corner : Rows → ℕ → ℕ → Option Dart
corner rows v p = slice_get (around_vertex rows v) p

-- ---- The darts as numbers, in canonical order: 2i and 2i + 1 are the two of one segment

-- the place of a dart in the canonical order
abbrev pub index_of : Rows → Dart → ℕ
index_of rows d = position_or_len (same_dart d) (darts rows)

-- for each dart the number of the next one clockwise at its point
abbrev pub turn_images : Rows → List ℕ
turn_images rows = map (λ d. index_of rows (turn (system rows) d)) (darts rows)

-- the number of faces: the cycles of the face map on these numbers
abbrev pub face_count : Rows → ℕ
face_count rows = faces_of (turn_images rows)
