-- An edge opened from its start: the rotation system without the darts of its first segments, on the numbers that all darts have.
use Rattle.std.specs.Prelude.{◌≡◌, ◌≢◌, ◌<◌, ◌↔◌, ℕ, ◌+◌, ◌==◌, Bool, true, false, cond, ◌&&◌, not, nat_lt, [], ◌∷◌, filter, length, slice_get, unwrap_or, Some}
use Rattle.std.specs.List.{list_any}
use Rattle.topo_core.specs.declared.darts.Dart.{Dart}
use Rattle.topo_core.specs.declared.darts.Way.TheVariants.{Forward}
use Rattle.topo_core.specs.declared.rows.Rows.{Rows}
use Rattle.topo_core.specs.declared.rows.EdgeRow.{EdgeRow}
use Rattle.topo_core.specs.declared.rows.CrossRow.{CrossRow}
use Rattle.topo_core.specs.Items.{IsIn}
use Rattle.topo_core.specs.Cycles.{IsPermutation, SameCycle, map_of}
use Rattle.topo_core.specs.Rotations.{Joined, face_next, twin}
use Rattle.topo_core.specs.Edits.{IsUnchord}
use Rattle.topo_core.specs.Darts.{dart_twin}
use Rattle.topo_core.specs.Systems.{SameFace, bypassed, darts_in, has_dart, turn}
use Rattle.topo_core.specs.Picture.{around_crossing, darts, edge_row, end_dart, index_of, rotation, segment_count, system, turn_images}
use Rattle.topo_core.specs.Lawful.{IsWellFormed}
use Rattle.topo_core.specs.Changes.{opened}

-- ---- The opened system on numbers

-- d is a dart of one of the first i segments of e
abbrev pub is_opened : ℕ → ℕ → Dart → Bool
is_opened e i d = d.edge == e && nat_lt d.seg i

-- the dart with a number
abbrev pub dart_numbered : Rows → ℕ → Dart
dart_numbered rows a = unwrap_or (slice_get (darts rows) a) (record { edge = 0; seg = 0; way = Forward })

-- the turn on numbers when the darts that pass are out: a dart that is out turns to itself
abbrev pub turn_without : Rows → (Dart → Bool) → ℕ → ℕ
turn_without rows gone a = cond (gone (dart_numbered rows a)) a (index_of rows (turn (bypassed gone (system rows)) (dart_numbered rows a)))

-- the turn on numbers when the first i segments of e are out
abbrev pub opened_turn : Rows → ℕ → ℕ → ℕ → ℕ
opened_turn rows e i = turn_without rows (is_opened e i)

-- ---- Segment by segment

-- how the numbers turn when an edge is opened from its start
pub record Opens (rows : Rows) (e : ℕ) : Type 0 where
  -- as before when nothing is out
  pub shut : (a : ℕ) → a < length (darts rows) → opened_turn rows e 0 a ≡ map_of (turn_images rows) a
  pub permutes : (i : ℕ) → IsPermutation (opened_turn rows e i) (length (darts rows))
  -- one more segment taken out is an edit of the embedding
  pub unchords : (row : EdgeRow) → edge_row rows e ≡ Some row → (i : ℕ) → i < segment_count row
      → IsUnchord (opened_turn rows e i) (opened_turn rows e (i + 1)) (length (darts rows)) (index_of rows (record { edge = e; seg = i; way = Forward }))
  -- a dart that is out turns to itself, and any other as in the opened system
  pub out_alone : (i : ℕ) (d : Dart) → has_dart (darts rows) d ≡ true → is_opened e i d ≡ true → opened_turn rows e i (index_of rows d) ≡ index_of rows d
  pub left_turns : (i : ℕ) (d : Dart) → has_dart (darts rows) d ≡ true → is_opened e i d ≡ false
      → opened_turn rows e i (index_of rows d) ≡ index_of rows (turn (opened rows e i) d)

-- taking out the segments of an edge one after the other takes out one chord after the other
abbrev pub OpeningUnchords : Type 0
OpeningUnchords = (rows : Rows) → IsWellFormed rows → (e : ℕ) → Opens rows e

-- ---- Faces and connections

-- two darts that are left have one face on their left just when their numbers lie on one cycle of the face map
abbrev pub OpeningsKeepFaces : Type 0
OpeningsKeepFaces = (rows : Rows) → IsWellFormed rows → (e i : ℕ) (c d : Dart)
    → has_dart (darts rows) c ≡ true → is_opened e i c ≡ false → has_dart (darts rows) d ≡ true → is_opened e i d ≡ false
    → (SameFace (opened rows e i) c d ↔ SameCycle (face_next (opened_turn rows e i)) (index_of rows c) (index_of rows d))

-- which darts are left, and when two of them are joined
pub record JoinsOpened (rows : Rows) (e i : ℕ) : Type 0 where
  pub left : (d : Dart) → has_dart (darts_in (opened rows e i)) d ≡ (has_dart (darts rows) d && not (is_opened e i d))
  pub joined : (c d : Dart) → has_dart (darts rows) c ≡ true → is_opened e i c ≡ false → has_dart (darts rows) d ≡ true → is_opened e i d ≡ false
      → (Joined (turn (opened rows e i)) dart_twin c d ↔ Joined (opened_turn rows e i) twin (index_of rows c) (index_of rows d))

-- darts that are left are joined just when their numbers are
abbrev pub OpeningsKeepConnection : Type 0
OpeningsKeepConnection = (rows : Rows) → IsWellFormed rows → (e i : ℕ) → JoinsOpened rows e i

-- ---- Bare points

-- which points have no dart left when the first i segments of e are out
pub record Bares (rows : Rows) (e i : ℕ) : Type 0 where
  -- a picture without bare points has no empty rotation
  pub full : list_any (λ around. length around == 0) (system rows) ≡ false → (v : ℕ) → v < length rows.rotations → rotation rows v ≢ []
  -- no crossing becomes bare
  pub crossings : (x : CrossRow) → IsIn x rows.crossings → (length (filter (λ d. not (is_opened e i d)) (around_crossing rows x)) == 0) ≡ false
  -- a vertex with another edge does not
  pub others : ((v : ℕ) → v < length rows.rotations → rotation rows v ≢ []) → ((v : ℕ) → v < length rows.rotations → rotation rows v ≢ e ∷ [])
      → list_any (λ around. length around == 0) (opened rows e i) ≡ false
  -- nor one at which the dart of e is left
  pub kept : ((v : ℕ) → v < length rows.rotations → rotation rows v ≢ [])
      → ((v : ℕ) → v < length rows.rotations → rotation rows v ≡ e ∷ [] → is_opened e i (end_dart rows v e) ≡ false)
      → list_any (λ around. length around == 0) (opened rows e i) ≡ false
  -- a vertex with no edge but e becomes bare with its dart
  pub alone : (v : ℕ) → v < length rows.rotations → rotation rows v ≡ e ∷ [] → is_opened e i (end_dart rows v e) ≡ true
      → list_any (λ around. length around == 0) (opened rows e i) ≡ true

-- an opened edge leaves a vertex bare just where it is the only one there and its dart at the vertex is out
abbrev pub OpeningBares : Type 0
OpeningBares = (rows : Rows) → IsWellFormed rows → (e i : ℕ) → Bares rows e i
