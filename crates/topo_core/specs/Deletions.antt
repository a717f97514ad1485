-- Where the darts of a picture stood before an edge was deleted from it.
use Rattle.std.specs.Prelude.{◌≡◌, ◌≢◌, ◌⊎◌, ℕ, zero, suc, ◌+◌, ◌<◌, ◌≤◌, ◌==◌, true, cond, List, [], ◌∷◌, length, slice_get, is_some, Some}
use Rattle.topo_core.specs.declared.darts.Dart.{Dart}
use Rattle.topo_core.specs.declared.darts.Sign.{Sign}
use Rattle.topo_core.specs.declared.darts.Sign.TheVariants.{LeftToRight, RightToLeft}
use Rattle.topo_core.specs.declared.darts.Way.{Way}
use Rattle.topo_core.specs.declared.darts.Way.TheVariants.{Forward, Back}
use Rattle.topo_core.specs.declared.rows.Rows.{Rows}
use Rattle.topo_core.specs.declared.rows.CrossRow.{CrossRow}
use Rattle.topo_core.specs.declared.routes.Route.{Route}
use Rattle.topo_core.specs.Items.{has_id, IsIn}
use Rattle.topo_core.specs.Darts.{dart_twin, reversed}
use Rattle.topo_core.specs.Systems.{has_dart, turn}
use Rattle.topo_core.specs.Picture.{darts, edge_at, edge_row, segment_count, system, ahead, behind}
use Rattle.topo_core.specs.Lawful.{IsWellFormed}
use Rattle.topo_core.specs.Changes.{shown, without}
use Rattle.topo_core.specs.Insertions.{FollowsBut, IsInsertable, lifted, onward_by}

-- the picture without an edge is well formed
abbrev pub DeletionKeepsForm : Type 0
DeletionKeepsForm = (rows : Rows) (e : ℕ) → IsWellFormed rows → is_some (edge_row rows e) ≡ true → IsWellFormed (without rows e)

-- ---- The crossings of the edge

-- x is a crossing of the edges e and c, whichever of them was crossed
pub record IsCrossingOf (rows : Rows) (e c : ℕ) (x : CrossRow) : Type 0 where
  pub there : IsIn x rows.crossings
  pub edges : ((x.crossed ≡ e) × (x.newcomer ≡ c)) ⊎ ((x.crossed ≡ c) × (x.newcomer ≡ e))

-- the way of the newcomer's dart that lies on the right of the crossed edge
abbrev pub newcomer_rightward : Sign → Way
newcomer_rightward LeftToRight = Forward
newcomer_rightward RightToLeft = Back

-- the way of the dart of e that lies, at its crossing x, on the right of the other edge
abbrev pub rightward : CrossRow → ℕ → Way
rightward x e = cond (x.newcomer == e) (newcomer_rightward x.sign) (reversed (newcomer_rightward x.sign))

-- of the darts of e at its crossing x, the one on the right of the other edge and the one on its left
abbrev pub right_dart : Rows → ℕ → CrossRow → Dart
right_dart q e x = onward_by q x.id e (rightward x e)

abbrev pub left_dart : Rows → ℕ → CrossRow → Dart
left_dart q e x = onward_by q x.id e (reversed (rightward x e))

-- the crossings of a path that are gone, between the places where segment s of what is left begins and ends
abbrev pub gone_on : List ℕ → List ℕ → ℕ → List ℕ
gone_on gone [] s = []
gone_on gone (x ∷ path) zero = cond (has_id gone x) (x ∷ gone_on gone path zero) []
gone_on gone (x ∷ path) (suc s) = cond (has_id gone x) (gone_on gone path (suc s)) (gone_on gone path s)

-- the crossings of e on segment s of edge c of the picture without e, in the order of c's path
abbrev pub crossings_between : Rows → ℕ → ℕ → ℕ → List ℕ
crossings_between q e c s = gone_on (edge_at q e).crossings (edge_at q c).crossings s

-- from dart d to dart b, the other way, edge c passes these crossings one after another
abbrev pub RunsOver : Rows → ℕ → Dart → List ℕ → Dart → Type 0
RunsOver q c d [] b = dart_twin d ≡ b
RunsOver q c d (x ∷ xs) b = (dart_twin d ≡ behind q c x) × RunsOver q c (ahead q c x) xs b

-- ---- How the darts turn

-- p is q without edge e. The darts of p stand in q as lifted; those of other edges round the crossings of e are gone
pub record HidesTurns (q : Rows) (e : ℕ) (p : Rows) : Type 0 where
  -- the darts of p, lifted
  pub lifts : (d : Dart) → has_dart (darts p) d ≡ true → has_dart (darts q) (lifted p q d) ≡ true
  pub lifts_apart : (c d : Dart) → has_dart (darts p) c ≡ true → has_dart (darts p) d ≡ true → lifted p q c ≡ lifted p q d → c ≡ d
  pub left_edges : (d : Dart) → has_dart (darts p) d ≡ true → d.edge ≢ e
  pub turns : (d : Dart) → has_dart (darts p) d ≡ true → FollowsBut q e (lifted p q d) (lifted p q (turn (system p) d))
  -- where their segments run
  pub segments : (d : Dart) → has_dart (darts p) d ≡ true → d.way ≡ Forward
      → RunsOver q d.edge (lifted p q d) (crossings_between q e d.edge d.seg) (lifted p q (dart_twin d))
  pub between : (d : Dart) (i : ℕ) → has_dart (darts p) d ≡ true → IsIn i (crossings_between q e d.edge d.seg) → (x : CrossRow) × (x.id ≡ i)
      × IsCrossingOf q e d.edge x
  pub on_segment : (c : ℕ) (x : CrossRow) → IsCrossingOf q e c x → (s : ℕ) × (s < segment_count (edge_at p c)) × IsIn x.id (crossings_between q e c s)
  pub one_segment : (c s t i : ℕ) → is_some (edge_row p c) ≡ true → IsIn i (crossings_between q e c s) → IsIn i (crossings_between q e c t) → s ≡ t
  -- the darts of crossed edges at the crossings of e
  pub other_edge : (c : ℕ) (x : CrossRow) → IsCrossingOf q e c x → (c ≢ e) × (is_some (edge_row p c) ≡ true)
  pub crossed_there : (c : ℕ) (x : CrossRow) → IsCrossingOf q e c x → (has_dart (darts q) (ahead q c x.id) ≡ true)
      × (has_dart (darts q) (behind q c x.id) ≡ true)
  pub gone_points : (c : ℕ) (x : CrossRow) (d : Dart) → IsCrossingOf q e c x → has_dart (darts p) d ≡ true → (lifted p q d ≢ ahead q c x.id)
      × (lifted p q d ≢ behind q c x.id)
  pub ahead_apart : (b c : ℕ) (x y : CrossRow) → IsCrossingOf q e b x → IsCrossingOf q e c y → ahead q b x.id ≡ ahead q c y.id → x.id ≡ y.id
  pub behind_apart : (b c : ℕ) (x y : CrossRow) → IsCrossingOf q e b x → IsCrossingOf q e c y → behind q b x.id ≡ behind q c y.id → x.id ≡ y.id
  pub round_ahead : (c : ℕ) (x : CrossRow) → IsCrossingOf q e c x → (turn (system q) (ahead q c x.id) ≡ right_dart q e x)
      × (turn (system q) (right_dart q e x) ≡ behind q c x.id)
  pub round_behind : (c : ℕ) (x : CrossRow) → IsCrossingOf q e c x → (turn (system q) (behind q c x.id) ≡ left_dart q e x)
      × (turn (system q) (left_dart q e x) ≡ ahead q c x.id)
  -- the darts of e
  pub edge_there : (i : ℕ) (way : Way) → i ≤ length (edge_at q e).crossings → has_dart (darts q) (record { edge = e; seg = i; way = way }) ≡ true
  pub edge_crossing : (i n : ℕ) → slice_get (edge_at q e).crossings i ≡ Some n → (c : ℕ) × (x : CrossRow) × (x.id ≡ n) × IsCrossingOf q e c x
      × (ahead q e n ≡ record { edge = e; seg = i + 1; way = Forward }) × (behind q e n ≡ record { edge = e; seg = i; way = Back })
  pub first_end : let d : Dart = record { edge = e; seg = 0; way = Forward } in (turn (system q) d ≡ d)
      ⊎ ((c : Dart) × (has_dart (darts p) c ≡ true) × (turn (system q) d ≡ lifted p q c))
  pub last_end : let d : Dart = record { edge = e; seg = length (edge_at q e).crossings; way = Back } in (turn (system q) d ≡ d)
      ⊎ ((c : Dart) × (has_dart (darts p) c ≡ true) × (turn (system q) d ≡ lifted p q c))
  -- there are no others
  pub no_others : (d : Dart) → has_dart (darts q) d ≡ true → ((d.edge ≡ e) × (d.seg ≤ length (edge_at q e).crossings))
      ⊎ (((c : Dart) × (has_dart (darts p) c ≡ true) × (d ≡ lifted p q c))
      ⊎ ((c : ℕ) × (x : CrossRow) × IsCrossingOf q e c x × ((d ≡ ahead q c x.id) ⊎ (d ≡ behind q c x.id))))

-- a deletion changes the turn along the edge and nowhere else
abbrev pub DeletionShowsTurns : Type 0
DeletionShowsTurns = (rows : Rows) (e : ℕ) → IsWellFormed rows → is_some (edge_row rows e) ≡ true → HidesTurns rows e (without rows e)

-- ---- Undone insertions

-- taking out the edge that was just shown gives the picture back, but for the ids that were given
abbrev pub InsertionIsUndone : Type 0
InsertionIsUndone = (rows : Rows) (u v kind : ℕ) (r : Route) → IsWellFormed rows → IsInsertable rows u v kind r
    → without (shown rows u v kind r) rows.next_edge ≡ record rows { next_edge = rows.next_edge + 1; next_crossing = rows.next_crossing + length r.crossed }
