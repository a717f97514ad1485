-- How many vertices, edges and crossings a picture has without an edge, and which vertices are bare then.
use Rattle.std.proofs.Common.{◌≡◌, ◌≢◌, ◌+◌, ◌<◌, ◌≤◌, ◌||◌, ap, arith, Bool, cond, false, inl}
use Rattle.std.proofs.Common.{inr, length, List, not, refl, suc, sym, true, ℕ, [], ◌++◌, ◌∙◌, ◌∷◌}
use Rattle.std.specs.Prelude.{count_by, filter, map, slice_index_or, Some, option_map, unwrap_or, ◌==◌}
use Rattle.std.specs.List.{list_all, list_any}
use Rattle.std.proofs.lemmas.List.{length-map}
use Rattle.std.proofs.lemmas.List.Filters.{length-filter_both}
use Rattle.std.proofs.lemmas.List.Sums.{length-filter}
use Rattle.std.proofs.lemmas.Bool.{cases_Bool, eq-eqb, false≢true, or_from}
use Rattle.topo_core.specs.declared.rows.CrossRow.{CrossRow}
use Rattle.topo_core.specs.declared.rows.EdgeRow.{EdgeRow}
use Rattle.topo_core.specs.declared.rows.Rows.{Rows}
use Rattle.topo_core.specs.Changes.{without}
use Rattle.topo_core.specs.Items.{has_id, occurrences, rises_below}
use Rattle.topo_core.specs.Lawful.{has_good_path, is_good_crossing, IsWellFormed}
use Rattle.topo_core.specs.Picture.{cross_row, edge_row, rotation}
use Rattle.topo_core.proofs.Interface.{IsRotated, at_most_one, counted_in, crossing_there, edge_at_row, eqb_more, filter_passes, gone, good_rotation, in_has_id, is_left, left_true, none_counted_any}
use Rattle.topo_core.proofs.Interface.{occurrences-passing, one, path_once, row_id, row_in, some_of, sum_found, sum_of_map, taken_out, vertex_in, without_rotated, without_rotation, without_vertices}
use Rattle.topo_rows.proofs.Interface.{same_length}

-- ---- How many

-- as many vertices
pub vertices_without : (rows : Rows) (e : ℕ) → length (without rows e).rotations ≡ length rows.rotations
vertices_without rows e = without_vertices rows e

-- one edge less
pub edges_without : (rows : Rows) → IsWellFormed rows → (e : ℕ) (row : EdgeRow) → edge_row rows e ≡ Some row
    → length (without rows e).edges + 1 ≡ length rows.edges
edges_without rows good e row there =
    let rise = left_true (rises_below rows.next_edge (map (λ row. row.id) rows.edges)) (list_all (has_good_path rows) rows.edges) good.paths in
    let once : count_by (λ row. row.id == e) rows.edges ≡ 1 = sum_found (λ (row : EdgeRow). row.id) (λ row. 1) rows.next_edge e rows.edges rise
    ∙ ap (λ o. unwrap_or (option_map (λ row. 1) o) 0) there in
    let found = length-filter (λ (row : EdgeRow). row.id == e) rows.edges in
    grind (arith, length-filter_both, is_left, length-map, gone)

-- the ids that pass, of the items or of themselves
ids_passing : {X : Type 0} (id : X → ℕ) (q : ℕ → Bool) (xs : List X) → map id (filter (λ x. q (id x)) xs) ≡ filter q (map id xs)
ids_passing id q [] = refl
ids_passing id q (x ∷ xs) = by_test (q (id x)) (ids_passing id q xs) where
  by_test : (t : Bool) → map id (filter (λ x. q (id x)) xs) ≡ filter q (map id xs)
      → map id (cond t (x ∷ filter (λ x. q (id x)) xs) (filter (λ x. q (id x)) xs)) ≡ cond t (id x ∷ filter q (map id xs)) (filter q (map id xs))
  by_test true rest = ap (λ ys. id x ∷ ys) rest
  by_test false rest = rest

-- what fails is not counted
none_passes : (q : ℕ → Bool) (k : ℕ) (xs : List ℕ) → q k ≡ false → occurrences k (filter q xs) ≡ 0
none_passes q k xs fails = elim (cases_Bool (has_id (filter q xs) k)) [
  | inl h ↦ absurd (false≢true (sym fails ∙ filter_passes q k xs (in_has_id k (filter q xs) h)))
  | inr h ↦ none_counted_any (λ y. y == k) (filter q xs) h
]

-- the crossings of the path are gone
pub crossings_without : (rows : Rows) → IsWellFormed rows → (e : ℕ) (row : EdgeRow) → edge_row rows e ≡ Some row
    → length (without rows e).crossings + length row.crossings ≡ length rows.crossings
crossings_without rows good e row there =
    let rise = left_true (rises_below rows.next_crossing (map (λ x. x.id) rows.crossings)) (list_all (is_good_crossing rows) rows.crossings) good.crossings in
    let path : gone rows e ≡ row.crossings = ap (λ (row : EdgeRow). row.crossings) (edge_at_row rows e row there) in
    let same : (k : ℕ) → occurrences k (filter (has_id row.crossings) (map (λ (x : CrossRow). x.id) rows.crossings)) ≡ occurrences k row.crossings =
    λ k. elim (cases_Bool (has_id row.crossings k)) [
      | inl h ↦
          let at = in_has_id k row.crossings h in
          let pick = some_of (cross_row rows k) (crossing_there rows good.paths row (row_in rows e row there) k at) in
          let listed : occurrences k (map (λ (x : CrossRow). x.id) rows.crossings) ≡ 1 = sum_of_map (λ y. one (y == k)) (λ (x : CrossRow). x.id) rows.crossings
          ∙ sum_found (λ (x : CrossRow). x.id) (λ x. 1) rows.next_crossing k rows.crossings rise
          ∙ ap (λ o. unwrap_or (option_map (λ x. 1) o) 0) pick.1 in
          let passing = occurrences-passing (has_id row.crossings) k (map (λ (x : CrossRow). x.id) rows.crossings) h in
          let most = path_once rows good e row there k at in
          let least = counted_in k row.crossings at in omega arith
      | inr h ↦ none_passes (has_id row.crossings) k (map (λ (x : CrossRow). x.id) rows.crossings) h ∙ sym (none_counted_any (λ y. y == k) row.crossings h)
    ] in
    let long : length (filter (λ (x : CrossRow). has_id row.crossings x.id) rows.crossings) ≡ length row.crossings =
    sym (length-map (filter (λ (x : CrossRow). has_id row.crossings x.id) rows.crossings) (λ (x : CrossRow). x.id))
    ∙ ap length (ids_passing (λ (x : CrossRow). x.id) (has_id row.crossings) rows.crossings)
    ∙ same_length (filter (has_id row.crossings) (map (λ (x : CrossRow). x.id) rows.crossings)) row.crossings same in
    grind (arith, length-filter_both)

-- ---- Bare vertices

nothing_joined : (xs ys : List ℕ) → xs ++ ys ≡ [] → (xs ≡ []) × (ys ≡ [])
nothing_joined [] ys h = (refl, h)
nothing_joined (x ∷ xs) ys h = cc

nothing_rotated : {before after : List ℕ} → IsRotated before after → after ≡ [] → before ≡ []
nothing_rotated {before} {after} r h = grind (arith, nothing_joined)

-- an edge stands at most once round a vertex
at_most_once : (rows : Rows) → IsWellFormed rows → (e v : ℕ) → v < length rows.rotations → occurrences e (rotation rows v) ≤ 1
at_most_once rows good e v inside =
    let around = good_rotation rows good.rotations v (vertex_in rows v inside) in
    elim (cases_Bool (has_id (rotation rows v) e)) [
      | inl h ↦
          let row = some_of (edge_row rows e) (around.known e (in_has_id e (rotation rows v) h)) in
          at_most_one (row.0.a == v || row.0.b == v) (occurrences e (rotation rows v))
          (ap (λ n. occurrences n (rotation rows v)) (sym (row_id rows e row.0 row.1)) ∙ around.counted row.0 (row_in rows e row.0 row.1))
      | inr h ↦ let none = none_counted_any (λ y. y == e) (rotation rows v) h in omega arith
    ]

-- a vertex that becomes bare had the edge alone
pub bare_without : (rows : Rows) → IsWellFormed rows → (e v : ℕ) → v < length rows.rotations → rotation rows v ≢ [] → rotation (without rows e) v ≡ []
    → rotation rows v ≡ e ∷ []
bare_without rows good e v inside some bare =
    let empty : filter (λ f. not (f == e)) (rotation rows v) ≡ [] = nothing_rotated (without_rotated rows e v) bare in
    elim (taken_out e (rotation rows v) (at_most_once rows good e v inside)) [
      | inl out ↦ grind (arith, nothing_joined)
      | inr same ↦ absurd (some (sym same ∙ empty))
    ]

-- and a vertex that had the edge alone becomes bare
pub without_bare : (rows : Rows) (e v : ℕ) → rotation rows v ≡ e ∷ [] → rotation (without rows e) v ≡ []
without_bare rows e v alone = grind (arith, without_rotation, eq-eqb)

none_empty : (lists : List (List ℕ)) → ((v : ℕ) → v < length lists → slice_index_or lists v [] ≢ []) → list_any (λ around. length around == 0) lists ≡ false
none_empty [] full = refl
none_empty ([] ∷ lists) full = absurd (full 0 (omega arith) refl)
none_empty ((x ∷ xs) ∷ lists) full = or_from (length (x ∷ xs) == 0) (list_any (λ around. length around == 0) lists) (eqb_more (length (x ∷ xs)) 0 (omega arith))
    (none_empty lists (λ v inside. full (suc v) (omega arith)))

-- where no vertex is bare or has the edge alone, none is bare without it
pub full_without : (rows : Rows) → IsWellFormed rows → (e : ℕ) → ((v : ℕ) → v < length rows.rotations → rotation rows v ≢ [])
    → ((v : ℕ) → v < length rows.rotations → rotation rows v ≢ e ∷ [])
    → list_any (λ around. length around == 0) (without rows e).rotations ≡ false
full_without rows good e full others = none_empty (without rows e).rotations (λ v inside bare.
    let as_many = without_vertices rows e in
    let below : v < length rows.rotations = omega arith in
    others v below (bare_without rows good e v below (full v below) bare))
