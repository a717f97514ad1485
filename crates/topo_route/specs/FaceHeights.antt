-- Heights of faces by their labels, and those of darts by their names.
use Rattle.std.specs.Prelude.{◌≡◌, ◌≢◌, ℕ, ◌^◌, ◌<◌, ◌==◌, ◌&&◌, ◌++◌, ◌∷◌, [], Bool, cond, List, length, map, slice_index, slice_index_or, true}
use Rattle.std.specs.List.{range_with_len}
use Rattle.topo_core.specs.Items.{has_id}
use Rattle.topo_core.specs.Picture.{darts}
use Rattle.topo_core.specs.Routes.{unreached}
use Rattle.topo_core.specs.Systems.{has_dart}
use Rattle.topo_route.specs.Names.{IsName, Named, dart_named}

-- whether a number is the name of a dart
abbrev pub is_name : Named → ℕ → Bool
is_name g k = has_dart (darts g.rows) (dart_named g k) && g.name (dart_named g k) == k

-- the height of the face of the dart with this name
abbrev pub height_at : Named → (ℕ → ℕ) → List ℕ → ℕ → ℕ
height_at g face heights k = cond {A = ℕ} (is_name g k) (slice_index_or heights (face k) unreached) unreached

-- the heights of darts by their names, from those of faces by their labels
unfoldable pub dart_heights : Named → (ℕ → ℕ) → List ℕ → List ℕ
dart_heights g face heights = map (height_at g face heights) (range_with_len 0 g.size)

-- the names of darts in the faces that are reached, where a face is given a height: one more if it was not reached before
abbrev pub with_name : List ℕ → ℕ → ℕ → List ℕ → List ℕ
with_name heights f k names = cond {A = List ℕ} (slice_index heights f == unreached) (names ++ k ∷ []) names

-- One height for each label, and names of darts. In each face that is reached lies one of these.
pub record AreLabelled (g : Named) (face : ℕ → ℕ) (faces : ℕ) (heights names : List ℕ) : Type 0 where
  pub few : faces < 2 ^ 32
  pub one_each : length heights ≡ faces
  pub named : (k : ℕ) → has_id names k ≡ true → IsName g k
  pub inside : (f : ℕ) → f < faces → slice_index heights f ≢ unreached → (k : ℕ) × (has_id names k ≡ true) × (face k ≡ f)
