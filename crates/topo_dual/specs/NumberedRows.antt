-- Rows with their darts as numbers: the lists that number them.
use Rattle.std.proofs.Common.{arith}
use Rattle.std.specs.Prelude.{◌≡◌, ℕ, ◌<◌, true, List, length, map, slice_index}
use Rattle.topo_core.specs.declared.darts.Dart.{Dart}
use Rattle.topo_core.specs.declared.rows.Rows.{Rows}
use Rattle.topo_core.specs.Lawful.{Lawful}
use Rattle.topo_core.specs.Picture.{darts, index_of}
use Rattle.topo_core.specs.Systems.{has_dart}
use Rattle.topo_embedded.specs.Halves.{RowsWithPaths, half_in}
use Rattle.topo_embedded.specs.KnownFaces.{faces_known}
use Rattle.topo_route.specs.Names.{HasFaces, IsNamed, canonical, next_name}
use Rattle.topo_route.proofs.Interface.{canonical_named}
use Rattle.topo_route.specs.Potentials.{AreConsistent, all_four}
use Rattle.topo_rows.specs.Recovering.{lawful_again}

-- rows of which it is known that they are lawful, and a label of the face of each dart by its number
pub record LawfulRows : Type 0 where
  pub rows : Rows
  pub lawful : ∥ Lawful rows ∥₁
  pub faces : List ℕ
  pub bound : ℕ
  pub told : ∥ HasFaces (canonical rows) (slice_index faces) bound ∥₁

-- no number stands twice in the list
abbrev pub AreApart : List ℕ → Type 0
AreApart xs = (i j : ℕ) → i < length xs → j < length xs → slice_index xs i ≡ slice_index xs j → i ≡ j

-- two lists number the darts of the rows: the halves of the darts in canonical order, and at the half of each dart its number
pub record AreNumbersOf (p : RowsWithPaths) (halves numbers : List ℕ) : Type 0 where
  pub in_order : halves ≡ map (half_in p) (darts p.rows)
  pub within : (d : Dart) → has_dart (darts p.rows) d ≡ true → half_in p d < length numbers
  pub numbered : (d : Dart) → has_dart (darts p.rows) d ≡ true → slice_index numbers (half_in p d) ≡ index_of p.rows d
  pub few_darts : length (darts p.rows) < 4294967296
  pub few_vertices : length p.rows.rotations < 4294967296

-- the lists hold what they should of the rows: with these two, at each number that of the next dart along the face, and the label of the face
pub record AreListsOf (p : RowsWithPaths) (halves numbers nexts faces : List ℕ) (bound : ℕ) : Type 0 where
  pub named : AreNumbersOf p halves numbers
  pub as_many : length nexts ≡ length halves
  pub follow : (k : ℕ) → k < length halves → slice_index nexts k ≡ next_name (canonical p.rows) k
  pub labelled : length faces ≡ length halves
  pub told : HasFaces (canonical p.rows) (slice_index faces) bound

-- of rows of which it is merely known that they are lawful, each dart has a number of its own
pub names_again : (rows : Rows) → ∥ Lawful rows ∥₁ → IsNamed (canonical rows)
names_again rows merely = canonical_named rows (lawful_again rows merely)

-- and two darts have one label just where one face lies on their left
pub faces_again : (shown : LawfulRows) → HasFaces (canonical shown.rows) (slice_index shown.faces) shown.bound
faces_again shown = faces_known (canonical shown.rows) (lawful_again shown.rows shown.lawful) (slice_index shown.faces) shown.bound shown.told

-- nothing guides a search
pub never_guided : (shown : LawfulRows) → AreConsistent (canonical shown.rows) (slice_index shown.faces) (λ _. all_four 0) (λ _. 0)
never_guided shown = record {
  consistent = λ k is. record { first = omega arith; second = omega arith; third = omega arith; fourth = omega arith };
}
