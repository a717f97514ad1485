-- What the tests of rows say of one row, and the points of the system.
use Rattle.std.proofs.Common.{◌≡◌, ℕ, zero, suc, ◌<◌, Bool, true, false, not, ◌&&◌, List, [], ◌∷◌, length, Some, None, eqb, refl, sym, ap, arith, inl, inr}
use Rattle.std.specs.Prelude.{◌==◌, nat_lt, Option, map, slice_get, is_some, unwrap_or}
use Rattle.std.proofs.lemmas.Bool.Decides.{nat_tests}
use Rattle.std.proofs.lemmas.Bool.{eqb-true}
use Rattle.topo_core.specs.declared.darts.Dart.{Dart}
use Rattle.topo_core.specs.declared.rows.CrossRow.{CrossRow}
use Rattle.topo_core.specs.declared.rows.Rows.{Rows}
use Rattle.topo_core.specs.declared.rows.EdgeRow.{EdgeRow}
use Rattle.topo_core.specs.Picture.{edge_row, edge_at, cross_row, vertices, around_vertex, around_crossing, system}
use Rattle.topo_core.specs.Items.{IsIn}
use Rattle.topo_core.specs.Systems.{darts_in}
use Rattle.topo_core.specs.Lawful.{has_good_paths}
use Rattle.topo_core.proofs.numbering.Members.{found, in_joined, in_left, in_map, in_range, in_right, right_true, test_of_each}

-- ---- What the tests say of one row

-- the row of an edge that is there
pub edge_at_row : (rows : Rows) (e : ℕ) (row : EdgeRow) → edge_row rows e ≡ Some row → edge_at rows e ≡ row
edge_at_row rows e row there = ap (λ o. unwrap_or o (record { id = e; a = 0; b = 0; kind = 0; crossings = [] })) there

-- it has the id that it was looked for by
pub row_id : (rows : Rows) (e : ℕ) (row : EdgeRow) → edge_row rows e ≡ Some row → row.id ≡ e
row_id rows e row there = eqb-true row.id e (found (λ row. row.id == e) row rows.edges there).1

-- and is a row of an edge
pub row_in : (rows : Rows) (e : ℕ) (row : EdgeRow) → edge_row rows e ≡ Some row → IsIn row rows.edges
row_in rows e row there = (found (λ row. row.id == e) row rows.edges there).0

-- the ends of an edge are two vertices
pub record PathFacts (rows : Rows) (row : EdgeRow) : Type 0 where
  pub a_in : row.a < length rows.rotations
  pub b_in : row.b < length rows.rotations
  pub apart : eqb row.a row.b ≡ false

path_facts_of_tests : (a b n : ℕ) (c d : Bool) → (nat_lt a n && nat_lt b n && not (eqb a b) && c && d) ≡ true → (a < n) × (b < n) × (eqb a b ≡ false)
path_facts_of_tests a b n c d h = (grind (arith, nat_tests), grind (arith, nat_tests), grind (arith, nat_tests))

-- from the tests of the rows
pub path_facts : (rows : Rows) → has_good_paths rows ≡ true → (row : EdgeRow) → IsIn row rows.edges → PathFacts rows row
path_facts rows good row h = grind (arith, test_of_each, right_true, path_facts_of_tests)

-- ---- The points of the system

-- a number below the count of vertices is a vertex
pub vertex_in : (rows : Rows) (v : ℕ) → v < length rows.rotations → IsIn v (vertices rows)
vertex_in rows v inside = in_range 0 (length rows.rotations) v (omega arith) (omega arith)

-- the darts round a vertex are a point
pub vertex_point : (rows : Rows) (v : ℕ) → IsIn v (vertices rows) → IsIn (around_vertex rows v) (system rows)
vertex_point rows v there = in_left (around_vertex rows v) (map (around_vertex rows) (vertices rows)) (map (around_crossing rows) rows.crossings)
    (in_map (around_vertex rows) v (vertices rows) there)

-- and so are those round a crossing
pub crossing_point : (rows : Rows) (x : CrossRow) → IsIn x rows.crossings → IsIn (around_crossing rows x) (system rows)
crossing_point rows x there = in_right (around_crossing rows x) (map (around_vertex rows) (vertices rows)) (map (around_crossing rows) rows.crossings)
    (in_map (around_crossing rows) x rows.crossings there)

-- a dart round a vertex is in the system
pub at_vertex_in : (rows : Rows) (v : ℕ) (d : Dart) → v < length rows.rotations → IsIn d (around_vertex rows v) → IsIn d (darts_in (system rows))
at_vertex_in rows v d inside h = in_joined d (around_vertex rows v) (system rows) h (vertex_point rows v (vertex_in rows v inside))

-- a number is equal to itself
pub eqb_self : (n : ℕ) → eqb n n ≡ true
eqb_self n = grind (arith, nat_tests)

-- ---- Crossings on a path

-- a path names crossings that are there
pub crossing_there : (rows : Rows) → has_good_paths rows ≡ true → (row : EdgeRow) → IsIn row rows.edges → (x : ℕ) → IsIn x row.crossings
    → is_some (cross_row rows x) ≡ true
crossing_there rows good row h x named = grind (arith, test_of_each, right_true)

-- what an option holds that is not empty
pub some_of : {X : Type 0} (o : Option X) → is_some o ≡ true → (x : X) × (o ≡ Some x)
some_of None h = cc
some_of (Some x) h = (x, refl)

-- the entry at a place is an item
pub in_at : (x : ℕ) (xs : List ℕ) (i : ℕ) → slice_get xs i ≡ Some x → IsIn x xs
in_at x [] i e = cc
in_at x (y ∷ xs) zero e = let same : y ≡ x = cc in inl (sym same)
in_at x (y ∷ xs) (suc i) e = inr (in_at x xs i e)

-- each place of a list has an entry
pub get_there : {X : Type 0} (xs : List X) (i : ℕ) → i < length xs → (x : X) × (slice_get xs i ≡ Some x)
get_there [] i h = absurd (omega arith)
get_there (x ∷ xs) zero h = (x, refl)
get_there (x ∷ xs) (suc i) h = get_there xs i (omega arith)
