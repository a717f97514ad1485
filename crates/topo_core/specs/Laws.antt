-- Laws of the definitions, each proved as the contract of a function without a body.
use Rattle.std.specs.Prelude.{◌≡◌, ◌<◌, ◌↔◌, ◌%◌, ◌⊎◌, ◌==◌, ℕ, true, false, cond, length, count_by, slice_get, slice_index, Some}
use Rattle.std.specs.List.{list_any}
use Rattle.topo_core.specs.declared.darts.Dart.{Dart}
use Rattle.topo_core.specs.declared.darts.Way.TheVariants.{Forward}
use Rattle.topo_core.specs.declared.rows.Rows.{Rows}
use Rattle.topo_core.specs.Cycles.{IsPermutation, IsPermutationList, SameCycle, map_of}
use Rattle.topo_core.specs.Rotations.{twin, face_next, IsConnected}
use Rattle.std.specs.declared.cmp.Ordering.TheVariants.{Less}
use Rattle.topo_core.specs.Darts.{dart_cmp, same_dart, dart_twin}
use Rattle.topo_core.specs.Systems.{darts_in, has_dart, turn, Connected, SameFace}
use Rattle.topo_core.specs.Picture.{IsDart, darts, rotation, system, index_of, turn_images, face_count}
use Rattle.topo_core.specs.Lawful.{IsEmbedding, HasGenusZero, IsWellFormed}
use Rattle.topo_core.specs.Changes.{grown}
use Rattle.topo_core.specs.declared.rows.TheConstants.{KINDS}

-- ---- Embeddings

-- a growth in a corner of a vertex makes a connected embedding of a connected embedding
abbrev pub GrowthKeepsEmbedding : Type 0
GrowthKeepsEmbedding = (rows : Rows) → IsEmbedding rows → (u p kind : ℕ) → u < length rows.rotations → p < length (rotation rows u) → kind < KINDS
    → IsEmbedding (grown rows u p kind)

-- a growth makes no face and takes none away
abbrev pub GrowthKeepsFaces : Type 0
GrowthKeepsFaces = (rows : Rows) → IsWellFormed rows → (u p kind : ℕ) → u < length rows.rotations → p < length (rotation rows u) → kind < KINDS
    → face_count (grown rows u p kind) ≡ face_count rows

-- so it keeps genus zero
abbrev pub GrowthKeepsGenus : Type 0
GrowthKeepsGenus = (rows : Rows) → IsWellFormed rows → HasGenusZero rows → (u p kind : ℕ) → u < length rows.rotations → p < length (rotation rows u)
    → kind < KINDS → HasGenusZero (grown rows u p kind)

-- ---- Darts and turns

-- d is once round the points and once in the list of the darts if it is a dart of an edge, and else in neither
pub record StandsOnce (rows : Rows) (d : Dart) : Type 0 where
  pub round_points : count_by (same_dart d) (darts_in (system rows)) ≡ cond {A = ℕ} (has_dart (darts rows) d) 1 0
  pub listed : count_by (same_dart d) (darts rows) ≡ cond {A = ℕ} (has_dart (darts rows) d) 1 0
  pub of_an_edge : IsDart rows d ↔ (has_dart (darts rows) d ≡ true)

-- the points of well-formed rows have each dart of their edges once, and nothing else
abbrev pub DartsStandOnce : Type 0
DartsStandOnce = (rows : Rows) → IsWellFormed rows → (d : Dart) → StandsOnce rows d

-- the turn leads from darts of the picture to darts of the picture, no two to the same, on darts as on their numbers;
-- and on these the face map is a permutation too
pub record TurnPermutes (rows : Rows) : Type 0 where
  pub within : (d : Dart) → has_dart (darts rows) d ≡ true → has_dart (darts rows) (turn (system rows) d) ≡ true
  pub apart : (c d : Dart) → has_dart (darts rows) c ≡ true → has_dart (darts rows) d ≡ true → turn (system rows) c ≡ turn (system rows) d → c ≡ d
  pub images : IsPermutationList (turn_images rows)
  pub faces : IsPermutation (face_next (map_of (turn_images rows))) (length (turn_images rows))

-- the turn of well-formed rows is a permutation of their darts
abbrev pub TurnIsAPermutation : Type 0
TurnIsAPermutation = (rows : Rows) → IsWellFormed rows → TurnPermutes rows

-- ---- Darts as numbers

-- numbers and darts name each other, the forward dart of a segment is 2i and its twin 2i + 1, and the images are the turn on numbers
pub record NumbersStandForDarts (rows : Rows) : Type 0 where
  pub as_many : length (turn_images rows) ≡ length (darts rows)
  pub even : length (turn_images rows) % 2 ≡ 0
  pub below : (d : Dart) → has_dart (darts rows) d ≡ true → index_of rows d < length (darts rows)
  pub dart_of_number : (i : ℕ) → i < length (darts rows) → (d : Dart) × (slice_get (darts rows) i ≡ Some d)
  pub number_of_dart : (i : ℕ) (d : Dart) → slice_get (darts rows) i ≡ Some d → index_of rows d ≡ i
  pub dart_of_its_number : (d : Dart) → has_dart (darts rows) d ≡ true → slice_get (darts rows) (index_of rows d) ≡ Some d
  pub twins : (d : Dart) → has_dart (darts rows) d ≡ true → (has_dart (darts rows) (dart_twin d) ≡ true)
      × (index_of rows (dart_twin d) ≡ twin (index_of rows d))
  pub forward_even : (d : Dart) → has_dart (darts rows) d ≡ true → d.way ≡ Forward → index_of rows d % 2 ≡ 0
  pub turns : (d : Dart) → has_dart (darts rows) d ≡ true → slice_index (turn_images rows) (index_of rows d) ≡ index_of rows (turn (system rows) d)

-- in well-formed rows the numbers stand for the darts
abbrev pub DartsAreNumbered : Type 0
DartsAreNumbered = (rows : Rows) → IsWellFormed rows → NumbersStandForDarts rows

-- the canonical order is total: of two darts one comes first, or they are one, and what comes before a dart comes before all
-- behind it
pub record DartOrderIsTotal : Type 0 where
  pub total : (c d : Dart) → (dart_cmp c d ≡ Less) ⊎ ((c ≡ d) ⊎ (dart_cmp d c ≡ Less))
  pub transitive : (c d e : Dart) → dart_cmp c d ≡ Less → dart_cmp d e ≡ Less → dart_cmp c e ≡ Less

-- a dart has the smaller number just where it comes first
abbrev pub NumbersKeepOrder : Type 0
NumbersKeepOrder = (rows : Rows) → IsWellFormed rows → (c d : Dart) → has_dart (darts rows) c ≡ true → has_dart (darts rows) d ≡ true
    → ((index_of rows c < index_of rows d) ↔ (dart_cmp c d ≡ Less))

-- the rotation system is connected just when no point is bare and the numbers are connected
abbrev pub NumbersKeepConnection : Type 0
NumbersKeepConnection = (rows : Rows) → IsWellFormed rows
    → (Connected (system rows) ↔ ((list_any (λ around. length around == 0) (system rows) ≡ false) × IsConnected (turn_images rows)))

-- two darts have one face on their left just when their numbers lie on one cycle of the face map
abbrev pub NumbersKeepFaces : Type 0
NumbersKeepFaces = (rows : Rows) → IsWellFormed rows → (c d : Dart) → has_dart (darts rows) c ≡ true → has_dart (darts rows) d ≡ true
    → (SameFace (system rows) c d ↔ SameCycle (face_next (map_of (turn_images rows))) (index_of rows c) (index_of rows d))
