-- What an insertion does to the edges, crossing by crossing.
use Rattle.std.specs.Prelude.{◌≡◌, ◌≤◌, ℕ, ◌+◌, ◌-◌, ◌==◌, nat_lt, Bool, cond, ◌&&◌, List, [], ◌∷◌, map, filter, insert, length}
use Rattle.std.specs.List.{list_all, enumerate_from}
use Rattle.topo_core.specs.declared.darts.Dart.{Dart}
use Rattle.topo_core.specs.declared.rows.EdgeRow.{EdgeRow}
use Rattle.topo_core.specs.Items.{IsIn}
use Rattle.topo_core.specs.Changes.{woven}

-- the darts lie on the paths of their edges, of those that are there
abbrev pub AreOnPaths : List EdgeRow → List Dart → Type 0
AreOnPaths edges darts = (d : Dart) (row : EdgeRow) → IsIn d darts → IsIn row edges → row.id ≡ d.edge → d.seg ≤ length row.crossings

-- the crossings on the paths have ids before this one
abbrev pub paths_below : ℕ → List EdgeRow → Bool
paths_below first edges = list_all (λ row. list_all (λ x. nat_lt x first) row.crossings) edges

-- the place on a path where segment s ends, when only the crossings with ids before this one count
abbrev pub segment_end : ℕ → ℕ → List ℕ → ℕ
segment_end first s [] = 0
segment_end first s (x ∷ xs) = cond (nat_lt x first) (cond (s == 0) 0 (segment_end first (s - 1) xs + 1)) (segment_end first s xs + 1)

-- the path with crossing x put on at the end of that segment
abbrev pub crossed_path : ℕ → ℕ → ℕ → List ℕ → List ℕ
crossed_path first s x path = insert path (segment_end first s path) x

-- the row with its path changed, if it is that of edge e
abbrev pub repathed : ℕ → (List ℕ → List ℕ) → EdgeRow → EdgeRow
repathed e change row = record row { crossings = cond (row.id == e) (change row.crossings) row.crossings }

-- the crossings of these darts, with ids from the first on, that lie on segment s of edge e
abbrev pub crossings_on : ℕ → List Dart → ℕ → ℕ → List ℕ
crossings_on first darts e s = map (λ x. x.0) (filter (λ x. x.1.edge == e && x.1.seg == s) (enumerate_from first darts))

-- the row with the crossings of these darts on its path
abbrev pub crossed_by : ℕ → List Dart → EdgeRow → EdgeRow
crossed_by first darts row = record row { crossings = woven (crossings_on first darts row.id) 0 row.crossings }
