-- An edge that is taken out of an embedding segment by segment.
use Rattle.std.specs.Prelude.{◌≡◌, ◌≢◌, ℕ, ◌+◌, ◌-◌, ◌<◌, ◌≤◌, ◌==◌, Bool, true, List, [], filter, is_some, length, not, slice_index_or, slice_set, take}
use Rattle.std.specs.List.{position_or_len}
use Rattle.topo_core.specs.declared.rows.Rows.{Rows}
use Rattle.topo_core.specs.Cycles.{map_of}
use Rattle.topo_core.specs.Items.{has_id}
use Rattle.topo_core.specs.Lawful.{Lawful}
use Rattle.topo_core.specs.Picture.{edge_at, edge_row, index_of, turn_images}
use Rattle.topo_core.specs.Pictures.{back, forward}
use Rattle.topo_perm.specs.Runs.{IsRun}
use Rattle.topo_perm.proofs.Interface.{smooths_of, unchords_of}
use Rattle.topo_map.specs.Rotation.{IsEmbedding, KeepsLabels, Rotation, edge_of, half_limit, is_live, turning_of}
use Rattle.topo_kept_rows.proofs.Interface.{across, first_of, is_even}
use Rattle.topo_embedded.specs.Deleting.{spared}
use Rattle.topo_embedded.specs.Halves.{RowsWithPaths, ShowsRows, half_at, path_of}

-- whether a half is on the list of its edge, and so leads along it
abbrev pub leads_in : Rows → List (List ℕ) → (ℕ → ℕ) → ℕ → Bool
leads_in rows paths label h = has_id (slice_index_or paths (position_or_len (λ row. row.id == label h) rows.edges) []) h

-- the dart ahead of the crossing at a place of the path of e, on the other edge
abbrev pub mid_at : Rows → ℕ → ℕ → ℕ
mid_at rows e i = across is_even (map_of (turn_images rows)) (index_of rows (back e i)) (index_of rows (forward e (i + 1)))

-- the path of e is handed out, and the other edges have theirs in the lists
pub record IsSetOut (rows : Rows) (others : List (List ℕ)) (e : ℕ) (path : List ℕ) (r : Rotation) : Type 0 where
  pub lawful : Lawful rows
  pub there : is_some (edge_row rows e) ≡ true
  pub paths : List (List ℕ)
  pub shows : ShowsRows (record { rows = rows; paths = paths }) r
  pub whole : IsEmbedding r
  pub as_many : length others ≡ length rows.edges
  pub own : path ≡ path_of (record { rows = rows; paths = paths }) e
  pub same : (c : ℕ) → is_some (edge_row rows c) ≡ true → c ≢ e
      → path_of (record { rows = rows; paths = others }) c ≡ path_of (record { rows = rows; paths = paths }) c

-- the first i segments of e are out, and the midpoints are at the places of those with a crossing behind them
pub record IsOpenTo (p : RowsWithPaths) (e : ℕ) (r : Rotation) (i : ℕ) (now : Rotation) (path : List ℕ) : Type 0 where
  pub run : IsRun half_limit (turning_of r) (unchords_of (λ j. half_at p (index_of p.rows (forward e j))) i) (turning_of now)
  pub whole : IsEmbedding now
  pub keeps : KeepsLabels (is_live now) (edge_of r) (edge_of now)
  pub as_many : length path ≡ length (edge_at p.rows e).crossings + 1
  pub left : (j : ℕ) → i ≤ j → j ≤ length (edge_at p.rows e).crossings → slice_index_or path j 0 ≡ half_at p (index_of p.rows (forward e j))
  pub mids : (j : ℕ) → j < i → j < length (edge_at p.rows e).crossings → slice_index_or path j 0 ≡ half_at p (mid_at p.rows e j)

-- ---- The midpoints that it leaves

-- the midpoints that the path of an edge holds once all of its segments are out: all of it but the last
abbrev pub mids_of : List ℕ → List ℕ
mids_of path = take (length path - 1) path

-- the lists with this half out of that of edge c
abbrev pub without_half : Rows → ℕ → ℕ → List (List ℕ) → List (List ℕ)
without_half rows c h paths =
    slice_set paths (position_or_len (λ row. row.id == c) rows.edges) (filter (λ x. not (x == h)) (path_of (record { rows = rows; paths = paths }) c))

-- e is out, and these are the halves at the midpoints that it left
pub record LeavesMids (p : RowsWithPaths) (e : ℕ) (r : Rotation) (mids : List ℕ) (now : Rotation) : Type 0 where
  pub run : IsRun half_limit (turning_of r) (unchords_of (λ j. half_at p (index_of p.rows (forward e j))) (length (edge_at p.rows e).crossings + 1))
      (turning_of now)
  pub whole : IsEmbedding now
  pub keeps : KeepsLabels (is_live now) (edge_of r) (edge_of now)
  pub as_many : length mids ≡ length (edge_at p.rows e).crossings
  pub each : (i : ℕ) → i < length (edge_at p.rows e).crossings → slice_index_or mids i 0 ≡ half_at p (mid_at p.rows e i)

-- the same, with what was before
pub record IsOpened (rows : Rows) (others : List (List ℕ)) (e : ℕ) (mids : List ℕ) (now : Rotation) : Type 0 where
  pub before : Rotation
  pub path : List ℕ
  pub set_out : IsSetOut rows others e path before
  pub opened : LeavesMids (record { rows = rows; paths = set_out.paths }) e before mids now

-- the first i midpoints are smoothed, and their halves are out of the lists of the other edges
pub record IsSmoothedTo (p : RowsWithPaths) (e : ℕ) (r opened : Rotation) (mids : List ℕ) (i : ℕ) (now : Rotation) (paths : List (List ℕ)) : Type 0 where
  pub run : IsRun half_limit (turning_of opened) (smooths_of (half_at p) (first_of (mid_at p.rows e) i)) (turning_of now)
  pub whole : IsEmbedding now
  pub keeps : KeepsLabels (is_live now) (edge_of r) (edge_of now)
  pub as_many : length paths ≡ length p.rows.edges
  pub lists : (c : ℕ) → is_some (edge_row p.rows c) ≡ true → c ≢ e
      → path_of (record { rows = p.rows; paths = paths }) c ≡ spared (has_id (take i mids)) (path_of p c)
