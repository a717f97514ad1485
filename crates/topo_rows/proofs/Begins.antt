-- Where the darts of each edge begin, and the numbers of darts.
use Rattle.std.proofs.Common.{◌≡◌, ◌+◌, ◌*◌, ◌<◌, ap, arith, Bool, cond, eqb, false, inl, inr, length}
use Rattle.std.proofs.Common.{drop, List, not, refl, Some, subst, suc, sym, take, true, zero, ℕ, [], ◌++◌, ◌∙◌, ◌∷◌}
use Rattle.std.proofs.Math.Seq.{drop-length}
use Rattle.std.specs.Prelude.{find, flat_map, is_some, map, slice_get, slice_index, slice_set, ◌==◌}
use Rattle.std.specs.List.{list_all, position_or_len, range_with_len}
use Rattle.std.specs.List.Sorted.{IsStrictlyIncreasing}
use Rattle.std.proofs.lemmas.Bool.{cases_Bool}
use Rattle.std.proofs.lemmas.List.{length-append}
use Rattle.topo_core.specs.declared.darts.Way.TheVariants.{Forward, Back}
use Rattle.topo_core.specs.declared.rows.EdgeRow.{EdgeRow}
use Rattle.topo_core.specs.declared.rows.Rows.{Rows}
use Rattle.topo_core.specs.Darts.{both_ways}
use Rattle.topo_core.specs.Lawful.{has_good_path, has_good_paths}
use Rattle.topo_core.specs.Picture.{darts, darts_of, edge_row, end_dart, index_of, segment_count}
use Rattle.topo_core.proofs.Interface.{edge_at_row, index_of_get, left_true, row_id}
use Rattle.topo_rows.proofs.Sorting.{rises_strictly}
use Rattle.topo_rows.specs.Flats.{begins_from}

-- ---- Items of joined lists

pub get_left : {X : Type 0} (xs ys : List X) (j : ℕ) → j < length xs → slice_get (xs ++ ys) j ≡ slice_get xs j
get_left [] ys j h = absurd (omega arith)
get_left (x ∷ xs) ys zero h = refl
get_left (x ∷ xs) ys (suc j) h = get_left xs ys j (omega arith)

pub get_right : {X : Type 0} (xs ys : List X) (i j : ℕ) → i ≡ length xs + j → slice_get (xs ++ ys) i ≡ slice_get ys j
get_right [] ys i j h = let same : i ≡ j = omega arith in ap (slice_get ys) same
get_right (x ∷ xs) ys zero j h = absurd (omega arith)
get_right (x ∷ xs) ys (suc i) j h = get_right xs ys i j (omega arith)

-- ---- The darts of one edge

both_length : (e a n : ℕ) → length (flat_map (both_ways e) (range_with_len a n)) ≡ 2 * n
both_length e a zero = refl
both_length e a (suc n) = let rest = both_length e (a + 1) n in omega arith

pub darts_length : (row : EdgeRow) → length (darts_of row) ≡ 2 * segment_count row
darts_length row = both_length row.id 0 (segment_count row)

pub forward_get : (e a n s : ℕ) → s < n
    → slice_get (flat_map (both_ways e) (range_with_len a n)) (2 * s) ≡ Some (record { edge = e; seg = a + s; way = Forward })
forward_get e a zero s h = absurd (omega arith)
forward_get e a (suc n) zero h = let same : a ≡ a + 0 = omega arith in ap (λ s. Some (record { edge = e; seg = s; way = Forward })) same
forward_get e a (suc n) (suc s) h =
    let place : 2 * suc s ≡ suc (suc (2 * s)) = omega arith in
    let same : (a + 1) + s ≡ a + suc s = omega arith in
    ap (slice_get (flat_map (both_ways e) (range_with_len a (suc n)))) place ∙ forward_get e (a + 1) n s (omega arith)
    ∙ ap (λ s. Some (record { edge = e; seg = s; way = Forward })) same

pub back_get : (e a n s : ℕ) → s < n → slice_get (flat_map (both_ways e) (range_with_len a n)) (2 * s + 1) ≡ Some (record { edge = e; seg = a + s; way = Back })
back_get e a zero s h = absurd (omega arith)
back_get e a (suc n) zero h = let same : a ≡ a + 0 = omega arith in ap (λ s. Some (record { edge = e; seg = s; way = Back })) same
back_get e a (suc n) (suc s) h =
    let place : 2 * suc s + 1 ≡ suc (suc (2 * s + 1)) = omega arith in
    let same : (a + 1) + s ≡ a + suc s = omega arith in
    ap (slice_get (flat_map (both_ways e) (range_with_len a (suc n)))) place ∙ back_get e (a + 1) n s (omega arith)
    ∙ ap (λ s. Some (record { edge = e; seg = s; way = Back })) same

-- ---- Where the darts of an edge begin

pub begins_head : (n : ℕ) (edges : List EdgeRow) → slice_index (begins_from n edges) 0 ≡ n
begins_head n [] = refl
begins_head n (row ∷ rest) = refl

-- at the place of the row stands the number of the darts before it, and those after them are its darts
pub record BeginsAt (n : ℕ) (edges : List EdgeRow) (k : ℕ) (row : EdgeRow) : Type 0 where
  pub before : ℕ
  pub here : slice_index (begins_from n edges) k ≡ n + before
  pub next : slice_index (begins_from n edges) (suc k) ≡ n + before + 2 * segment_count row
  pub listed : (j : ℕ) → j < 2 * segment_count row → slice_get (flat_map darts_of edges) (before + j) ≡ slice_get (darts_of row) j

pub begins_at : (n : ℕ) (edges : List EdgeRow) (k : ℕ) (row : EdgeRow) → slice_get edges k ≡ Some row → BeginsAt n edges k row
begins_at n [] k row e = cc
begins_at n (r ∷ rest) zero row e = grind (arith, begins_head, get_left, darts_length)
begins_at n (r ∷ rest) (suc k) row e =
    let more = begins_at (n + 2 * segment_count r) rest k row e in record {
      before = 2 * segment_count r + more.before;
      here = more.here ∙ omega arith;
      next = more.next ∙ omega arith;
      listed = λ j h. get_right (darts_of r) (flat_map darts_of rest) (2 * segment_count r + more.before + j) (more.before + j) (omega (arith, darts_length r))
          ∙ more.listed j h;
    }

-- the numbers end with that of all darts
pub begins_length : (n : ℕ) (edges : List EdgeRow) → length (begins_from n edges) ≡ length edges + 1
begins_length n [] = refl
begins_length n (row ∷ rest) = let more = begins_length (n + 2 * segment_count row) rest in omega arith

pub begins_last : (n : ℕ) (edges : List EdgeRow) → slice_index (begins_from n edges) (length edges) ≡ n + length (flat_map darts_of edges)
begins_last n [] = omega arith
begins_last n (row ∷ rest) = begins_last (n + 2 * segment_count row) rest
    ∙ omega (arith, darts_length row, length-append (darts_of row) (flat_map darts_of rest))

-- ---- The numbers of darts

module _ (rows : Rows) (paths : has_good_paths rows ≡ true) (k : ℕ) (row : EdgeRow) (at : slice_get rows.edges k ≡ Some row) where
  begin : BeginsAt 0 rows.edges k row
  begin = begins_at 0 rows.edges k row at

  pub number_forward : (s : ℕ) → s < segment_count row
      → index_of rows (record { edge = row.id; seg = s; way = Forward }) ≡ slice_index (begins_from 0 rows.edges) k + 2 * s
  number_forward s h =
      let b = begin in
      let same : 0 + s ≡ s = omega arith in
      let there : slice_get (darts rows) (b.before + 2 * s) ≡ Some (record { edge = row.id; seg = s; way = Forward }) =
      b.listed (2 * s) (omega arith) ∙ forward_get row.id 0 (segment_count row) s h ∙ ap (λ s. Some (record { edge = row.id; seg = s; way = Forward })) same in
      index_of_get rows paths (b.before + 2 * s) _ there ∙ omega (arith, b.here)

  pub number_back : (s : ℕ) → s < segment_count row
      → index_of rows (record { edge = row.id; seg = s; way = Back }) ≡ slice_index (begins_from 0 rows.edges) k + 2 * s + 1
  number_back s h =
      let b = begin in
      let same : 0 + s ≡ s = omega arith in
      let place : b.before + (2 * s + 1) ≡ b.before + 2 * s + 1 = omega arith in
      let there : slice_get (darts rows) (b.before + (2 * s + 1)) ≡ Some (record { edge = row.id; seg = s; way = Back }) =
      b.listed (2 * s + 1) (omega arith) ∙ back_get row.id 0 (segment_count row) s h ∙ ap (λ s. Some (record { edge = row.id; seg = s; way = Back })) same in
      index_of_get rows paths (b.before + (2 * s + 1)) _ there ∙ omega (arith, b.here)

  -- the next edge begins behind the last dart of this one
  pub number_last : index_of rows (record { edge = row.id; seg = length row.crossings; way = Back }) + 1 ≡ slice_index (begins_from 0 rows.edges) (suc k)
  number_last = let b = begin in let last = number_back (length row.crossings) (omega arith) in omega (arith, b.here, b.next)

-- ---- Places by ids

-- the row that an id finds stands at the place of the id among the ids
pub found_at : (e : ℕ) (edges : List EdgeRow) → is_some (find (λ row. row.id == e) edges) ≡ true
    → slice_get edges (position_or_len (λ y. y == e) (map (λ row. row.id) edges)) ≡ find (λ row. row.id == e) edges
found_at e [] h = cc
found_at e (row ∷ rest) h = elim (cases_Bool (row.id == e)) [
  | inl t ↦ cc
  | inr f ↦
      let place : position_or_len (λ y. y == e) (row.id ∷ map (λ row. row.id) rest) ≡ 1 + position_or_len (λ y. y == e) (map (λ row. row.id) rest) =
      ap (λ (b : Bool). cond {A = ℕ} (not b) (1 + position_or_len (λ y. y == e) (map (λ row. row.id) rest)) 0) f in
      let next : 1 + position_or_len (λ y. y == e) (map (λ row. row.id) rest) ≡ suc (position_or_len (λ y. y == e) (map (λ row. row.id) rest)) = omega arith in
      let later : find (λ row. row.id == e) (row ∷ rest) ≡ find (λ row. row.id == e) rest =
      ap (λ (b : Bool). cond b (Some row) (find (λ row. row.id == e) rest)) f in
      ap (slice_get (row ∷ rest)) (place ∙ next) ∙ found_at e rest (sym (ap is_some later) ∙ h) ∙ sym later
]

-- ---- The ends of edges

-- what is read at the place of an edge
pub record AtPlace (rows : Rows) (e place : ℕ) (row : EdgeRow) : Type 0 where
  pub is_row : edge_row rows e ≡ Some row
  pub at : slice_get rows.edges place ≡ Some row

module _ (rows : Rows) (paths : has_good_paths rows ≡ true) (v e place : ℕ) (row : EdgeRow) (there : AtPlace rows e place row) where
  is_e : row.id ≡ e
  is_e = row_id rows e row there.is_row

  by_end : (t : Bool) → eqb row.a v ≡ t
      → end_dart rows v e ≡ cond t (record { edge = e; seg = 0; way = Forward }) (record { edge = e; seg = length row.crossings; way = Back })
  by_end t is = ap (λ (r : EdgeRow). cond (r.a == v) (record { edge = e; seg = 0; way = Forward }) (record { edge = e; seg = length r.crossings; way = Back }))
      (edge_at_row rows e row there.is_row)
      ∙ ap (λ (b : Bool). cond b (record { edge = e; seg = 0; way = Forward }) (record { edge = e; seg = length row.crossings; way = Back })) is

  pub first_number : eqb row.a v ≡ true → slice_index (begins_from 0 rows.edges) place ≡ index_of rows (end_dart rows v e)
  first_number is =
      let number = number_forward rows paths place row there.at 0 (omega arith) in
      let named : index_of rows (record { edge = row.id; seg = 0; way = Forward }) ≡ index_of rows (end_dart rows v e) =
      ap (λ f. index_of rows (record { edge = f; seg = 0; way = Forward })) is_e ∙ ap (index_of rows) (sym (by_end true is)) in omega arith

  pub last_number : eqb row.a v ≡ false → index_of rows (end_dart rows v e) + 1 ≡ slice_index (begins_from 0 rows.edges) (place + 1)
  last_number is =
      let number = number_last rows paths place row there.at in
      let named : index_of rows (record { edge = row.id; seg = length row.crossings; way = Back }) ≡ index_of rows (end_dart rows v e) =
      ap (λ f. index_of rows (record { edge = f; seg = length row.crossings; way = Back })) is_e ∙ ap (index_of rows) (sym (by_end false is)) in
      let next : suc place ≡ place + 1 = omega arith in
      let at : slice_index (begins_from 0 rows.edges) (suc place) ≡ slice_index (begins_from 0 rows.edges) (place + 1) =
      ap (slice_index (begins_from 0 rows.edges)) next in omega arith

-- the ids of edges whose paths are good rise
pub edge_ids_climb : (rows : Rows) (ids : List ℕ) → has_good_paths rows ≡ true → ids ≡ map (λ row. row.id) rows.edges → IsStrictlyIncreasing ids
edge_ids_climb rows ids paths are = subst IsStrictlyIncreasing (sym are)
    (rises_strictly rows.next_edge (map (λ row. row.id) rows.edges) (left_true _ (list_all (has_good_path rows) rows.edges) paths))

-- ---- Begins as they are written

set_last : {X : Type 0} (xs : List X) (n : ℕ) (x : X) → length xs ≡ n + 1 → slice_set xs n x ≡ take n xs ++ (x ∷ [])
set_last {X = X} [] n x h = absurd (omega arith)
set_last {X = X} (y ∷ []) zero x h = refl
set_last {X = X} (y ∷ z ∷ ys) zero x h = absurd (omega arith)
set_last {X = X} (y ∷ ys) (suc n) x h = ap (λ (zs : List X). y ∷ zs) (set_last ys n x (omega arith))

-- where those of all edges are written, the number of all darts comes last
pub last_begin : (begins : List ℕ) (next : ℕ) (edges : List EdgeRow) → length begins ≡ length edges + 1
    → slice_set begins (length edges) next ≡ take (length edges) begins ++ begins_from next (drop (length edges) edges)
last_begin begins next edges many = set_last begins (length edges) next many
    ∙ ap (λ (rest : List EdgeRow). take (length edges) begins ++ begins_from next rest) (sym (drop-length edges))
