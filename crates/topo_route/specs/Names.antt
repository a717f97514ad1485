-- Darts by names: each dart of a picture has a number of its own, and the numbers are in no particular order.
use Rattle.std.specs.Prelude.{◌≡◌, ℕ, ◌<◌, ◌==◌, true, List, length, slice_index}
use Rattle.std.specs.List.{find}
use Rattle.std.specs.Option.{unwrap_or}
use Rattle.topo_core.specs.declared.darts.Dart.{Dart}
use Rattle.topo_core.specs.declared.darts.Way.TheVariants.{Forward}
use Rattle.topo_core.specs.declared.rows.Rows.{Rows}
use Rattle.topo_core.specs.Darts.{dart_twin}
use Rattle.topo_core.specs.Picture.{darts, index_of, system}
use Rattle.topo_core.specs.Systems.{SameFace, face_step, has_dart}

-- rows, the name of each dart, and a number that all names are below
pub record Named : Type 0 where
  pub rows : Rows
  pub name : Dart → ℕ
  pub size : ℕ

-- the names are below the size, and no two darts have one name
pub record IsNamed (g : Named) : Type 0 where
  pub within : (d : Dart) → has_dart (darts g.rows) d ≡ true → g.name d < g.size
  pub apart : (c d : Dart) → has_dart (darts g.rows) c ≡ true → has_dart (darts g.rows) d ≡ true → g.name c ≡ g.name d → c ≡ d

abbrev pub no_dart : Dart
no_dart = record { edge = 0; seg = 0; way = Forward }

-- the first dart with this name
abbrev pub dart_named : Named → ℕ → Dart
dart_named g k = unwrap_or (find (λ d. g.name d == k) (darts g.rows)) no_dart

-- a dart has this name
pub record IsName (g : Named) (k : ℕ) : Type 0 where
  pub there : has_dart (darts g.rows) (dart_named g k) ≡ true
  pub is : g.name (dart_named g k) ≡ k

-- the name of the next dart along the face on the left
abbrev pub next_name : Named → ℕ → ℕ
next_name g k = g.name (face_step (system g.rows) (dart_named g k))

-- the name of the same segment, the other way
abbrev pub twin_name : Named → ℕ → ℕ
twin_name g k = g.name (dart_twin (dart_named g k))

-- labels of faces by the names of darts: they are below a bound, and two darts have one label exactly where they lie in one face
pub record HasFaces (g : Named) (face : ℕ → ℕ) (bound : ℕ) : Type 0 where
  pub within : (k : ℕ) → IsName g k → face k < bound
  pub same : (j k : ℕ) → IsName g j → IsName g k → SameFace (system g.rows) (dart_named g j) (dart_named g k) → face j ≡ face k
  pub one : (j k : ℕ) → IsName g j → IsName g k → face j ≡ face k → SameFace (system g.rows) (dart_named g j) (dart_named g k)

-- the height of a dart in a list that has it at the dart's name
abbrev pub height_of : Named → List ℕ → Dart → ℕ
height_of g heights d = slice_index heights (g.name d)

-- the numbers in canonical order as names
abbrev pub canonical : Rows → Named
canonical rows = record { rows = rows; name = index_of rows; size = length (darts rows) }
