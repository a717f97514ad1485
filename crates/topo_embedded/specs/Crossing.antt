-- Crossed darts while their segments are split, and the segments of the new edge while they are drawn.
use Rattle.std.specs.Prelude.{◌≡◌, ℕ, ◌+◌, ◌≤◌, ◌==◌, cond, drop, false, slice_get, slice_index_or, take, true, List, [], ◌∷◌, length, map, Some}
use Rattle.std.specs.List.{All, AllByRecursion}
use Rattle.topo_core.specs.declared.darts.Dart.{Dart}
use Rattle.topo_core.specs.declared.rows.EdgeRow.{EdgeRow}
use Rattle.topo_core.specs.declared.rows.Rows.{Rows}
use Rattle.topo_core.specs.declared.routes.Route.{Route}
use Rattle.topo_core.specs.Insertions.{CrossesOnce, IsInsertable}
use Rattle.topo_core.specs.Lawful.{IsWellFormed}
use Rattle.topo_core.specs.Picture.{corner, darts, index_of}
use Rattle.topo_core.specs.Rotations.{twin}
use Rattle.topo_core.specs.Routes.{IsSimpleRoute}
use Rattle.topo_core.specs.Systems.{has_dart}
use Rattle.topo_perm.specs.Runs.{IsRun}
use Rattle.topo_perm.proofs.Interface.{AreAlong, NewChord, Subdivision, chords_of, splits_of}
use Rattle.topo_map.specs.Rotation.{IsEmbedding, Rotation, edge_of, half_limit, is_live, turning_of}
use Rattle.topo_embedded.specs.declared.padding.Crossed.{Crossed}
use Rattle.topo_embedded.specs.Halves.{RowsWithPaths, ShowsRows, half_in}
use Rattle.topo_embedded.specs.Inserting.{put_halves}
use Rattle.topo_embedded.specs.Padding.{ArePadded}

-- ---- Halves, subdivision vertices and chords

-- the subdivision vertex is on the half of the dart, and the half beyond it is new
pub record IsCrossedAt (p : RowsWithPaths) (r : Rotation) (d : Dart) (j : Subdivision) : Type 0 where
  pub there : has_dart (darts p.rows) d ≡ true
  pub dart : j.dart ≡ index_of p.rows d
  pub near : j.near ≡ half_in p d
  pub new : is_live r j.beyond ≡ false
  pub new_back : is_live r (twin j.beyond) ≡ false

abbrev pub AreCrossedAt : RowsWithPaths → Rotation → List Dart → List Subdivision → Type 0
AreCrossedAt p r [] [] = Unit {0}
AreCrossedAt p r [] (j ∷ js) = ⊥
AreCrossedAt p r (d ∷ ds) [] = ⊥
AreCrossedAt p r (d ∷ ds) (j ∷ js) = IsCrossedAt p r d j × AreCrossedAt p r ds js

-- both halves of a segment are live, and their edge has this id
pub record HasLabel (r : Rotation) (id : ℕ) (h : ℕ) : Type 0 where
  pub alive : is_live r h ≡ true
  pub alive_back : is_live r (twin h) ≡ true
  pub here : edge_of r h ≡ id
  pub behind : edge_of r (twin h) ≡ id

abbrev pub HaveLabel : Rotation → ℕ → List ℕ → Type 0
HaveLabel r id path = AllByRecursion (HasLabel r id) path

abbrev pub HaveLabels : Rotation → List EdgeRow → List (List ℕ) → Type 0
HaveLabels r edges paths = (k : ℕ) (row : EdgeRow) → slice_get edges k ≡ Some row → HaveLabel r row.id (slice_index_or paths k [])

-- the halves of a line of chords
abbrev pub halves_of : List NewChord → List ℕ
halves_of is = map (λ l. l.half) is

-- ---- Crossed darts

abbrev pub ids_of_edges : Rows → List ℕ
ids_of_edges rows = map (λ row. row.id) rows.edges

abbrev pub crossed_darts : List Crossed → List Dart
crossed_darts cs = map (λ c. c.dart) cs

-- the subdivision vertices at crossed darts
abbrev pub subdivisions_of : Rows → List Crossed → List Subdivision
subdivisions_of rows cs = map (λ c. record { dart = index_of rows c.dart; near = c.near; beyond = c.beyond }) cs

-- the half that starts where a half started before the splits
abbrev pub subdivided_half : List Crossed → ℕ → ℕ
subdivided_half [] h = h
subdivided_half (c ∷ cs) h = cond (h == twin c.near) (twin c.beyond) (subdivided_half cs h)

-- the dart is there, with its half
pub record IsMarked (p : RowsWithPaths) (c : Crossed) : Type 0 where
  pub there : has_dart (darts p.rows) c.dart ≡ true
  pub near : c.near ≡ half_in p c.dart

-- ---- Before

-- the crossed darts are marked, no two on one segment, and there is room for a half at each
pub record IsReady (p : RowsWithPaths) (r : Rotation) (cs : List Crossed) (paths : List (List ℕ)) : Type 0 where
  pub formed : IsWellFormed p.rows
  pub shows : ShowsRows p r
  pub marked : All (IsMarked p) cs
  pub once : CrossesOnce (crossed_darts cs)
  pub padded : ArePadded (ids_of_edges p.rows) (λ hs. hs) p.paths cs paths

-- an edge of this kind can be shown along the route, with its crossed darts marked and the halves of its corners
pub record IsReadyFor (p : RowsWithPaths) (r : Rotation) (cs : List Crossed) (u v kind : ℕ) (route : Route) (start end : ℕ) : Type 0 where
  pub formed : IsWellFormed p.rows
  pub shows : ShowsRows p r
  pub insertable : IsInsertable p.rows u v kind route
  pub simple : IsSimpleRoute p.rows u v route
  pub marked : All (IsMarked p) cs
  pub darts : crossed_darts cs ≡ route.crossed
  pub starts : (c : Dart) → corner p.rows u route.start ≡ Some c → start ≡ half_in p c
  pub ends : (c : Dart) → corner p.rows v route.end ≡ Some c → end ≡ half_in p c

-- ---- The splits

-- the segments of these darts are split, and each path keeps its label
pub record AreSplit (p : RowsWithPaths) (before now : Rotation) (cs : List Crossed) : Type 0 where
  pub crossed : AreCrossedAt p before (crossed_darts cs) (subdivisions_of p.rows cs)
  pub run : IsRun half_limit (turning_of before) (splits_of (subdivisions_of p.rows cs)) (turning_of now)
  pub whole : IsEmbedding now
  pub alive : AllByRecursion (λ c. (is_live now c.beyond ≡ true) × (is_live now (twin c.beyond) ≡ true)) cs
  pub labels : HaveLabels now p.rows.edges (map (put_halves (subdivisions_of p.rows cs)) p.paths)

-- those from place n on are split
pub record AreSplitFrom (p : RowsWithPaths) (before now : Rotation) (was cs : List Crossed) (n : ℕ) (paths : List (List ℕ)) : Type 0 where
  pub within : n ≤ length cs
  pub darts : crossed_darts cs ≡ crossed_darts was
  pub marked : All (IsMarked p) cs
  pub split : AreSplit p before now (drop n cs)
  pub padded : ArePadded (ids_of_edges p.rows) (put_halves (subdivisions_of p.rows (drop n cs))) p.paths (take n cs) paths
  pub room : now.room + length cs ≡ before.room + n

-- ---- The new edge

-- the segments of the new edge lead from one corner over the crossings to the other
pub record AreChordsAdded (before now : Rotation) (cs : List Crossed) (start end edge : ℕ) (line : List ℕ) : Type 0 where
  pub new_chords : List NewChord
  pub along : (rows : Rows) (name : ℕ → ℕ) (e : ℕ) → end ≡ name e → AreAlong name start (subdivisions_of rows cs) e new_chords
  pub run : IsRun half_limit (turning_of before) (chords_of new_chords) (turning_of now)
  pub halves : line ≡ halves_of new_chords
  pub labels : HaveLabel now edge line
  pub keeps : (id h : ℕ) → HasLabel before id h → HasLabel now id h

-- those behind the crossings from place n on are drawn, and the next one ends at a half
pub record AreChordsAddedFrom (before now : Rotation) (cs : List Crossed) (n to end edge : ℕ) (line : List ℕ) : Type 0 where
  pub within : n ≤ length cs
  pub many : length line ≡ length cs + 1
  pub new_chords : List NewChord
  pub along : (rows : Rows) (name : ℕ → ℕ) (e z x : ℕ) → end ≡ name e
      → AreAlong name z (subdivisions_of rows (drop n cs)) e (record { from = z; to = to; half = x } ∷ new_chords)
  pub run : IsRun half_limit (turning_of before) (chords_of new_chords) (turning_of now)
  pub whole : IsEmbedding now
  pub halves : drop (n + 1) line ≡ halves_of new_chords
  pub labels : HaveLabel now edge (drop (n + 1) line)
  pub keeps : (id h : ℕ) → HasLabel before id h → HasLabel now id h
  pub stays : (h : ℕ) → is_live before h ≡ true → is_live now h ≡ true
  pub to_alive : is_live now to ≡ true
  pub room : n + 1 ≤ now.room

-- ---- Both

-- the segments of the crossed darts are split, and the new edge is drawn between two corners
pub record IsRouted (p : RowsWithPaths) (before now : Rotation) (cs : List Crossed) (start end edge : ℕ) (line : List ℕ) : Type 0 where
  pub middle : Rotation
  pub split : AreSplit p before middle cs
  pub added : AreChordsAdded middle now cs (subdivided_half cs start) (subdivided_half cs end) edge line
