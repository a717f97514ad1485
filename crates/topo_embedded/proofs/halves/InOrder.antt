-- The halves along all paths, edge by edge, are those of the darts in canonical order.
use Rattle.std.proofs.Common.{◌≡◌, ◌+◌, ◌<◌, ap, arith, length, List, [], ◌∷◌, ◌++◌, refl, suc, sym, zero, ℕ, ◌∙◌}
use Rattle.std.specs.Prelude.{◌==◌, flat_map, map, slice_get, slice_index_or, Some}
use Rattle.std.specs.List.{position_or_len, range_with_len}
use Rattle.std.proofs.lemmas.List.{map-append}
use Rattle.topo_core.specs.declared.darts.Dart.{Dart}
use Rattle.topo_core.specs.declared.darts.Way.TheVariants.{Forward, Back}
use Rattle.topo_core.specs.declared.rows.EdgeRow.{EdgeRow}
use Rattle.topo_core.specs.Darts.{both_ways}
use Rattle.topo_core.specs.Lawful.{IsWellFormed}
use Rattle.topo_core.specs.Picture.{darts, darts_of, segment_count}
use Rattle.topo_core.specs.Rotations.{twin}
use Rattle.topo_map.specs.Rotation.{Rotation}
use Rattle.topo_rows.proofs.Interface.{edges_rise, placed_here}
use Rattle.topo_embedded.specs.Canonical.{halves_of}
use Rattle.topo_embedded.specs.Halves.{RowsWithPaths, ShowsRows, half_in}

-- what a map gives for the darts of an edge from segment a on are the halves of a path
record LiesAlong (f : Dart → ℕ) (e a : ℕ) (xs : List ℕ) : Type 0 where
  ahead : (s : ℕ) → s < length xs → f (record { edge = e; seg = a + s; way = Forward }) ≡ slice_index_or xs s 0
  behind : (s : ℕ) → s < length xs → f (record { edge = e; seg = a + s; way = Back }) ≡ twin (slice_index_or xs s 0)

along : (f : Dart → ℕ) (e a n : ℕ) (xs : List ℕ) → length xs ≡ n → LiesAlong f e a xs → map f (flat_map (both_ways e) (range_with_len a n)) ≡ halves_of xs
along f e a zero [] many l = refl
along f e a (suc n) [] many l = absurd (omega arith)
along f e a zero (x ∷ xs) many l = absurd (omega arith)
along f e a (suc n) (x ∷ xs) many l =
    let first : a + 0 ≡ a = omega arith in
    let next = λ (s : ℕ). (let is : (a + 1) + s ≡ a + suc s = omega arith in is) in
    let here : f (record { edge = e; seg = a; way = Forward }) ≡ x = ap (λ (s : ℕ). f (record { edge = e; seg = s; way = Forward })) (sym first)
    ∙ l.ahead 0 (omega arith) in
    let back : f (record { edge = e; seg = a; way = Back }) ≡ twin x = ap (λ (s : ℕ). f (record { edge = e; seg = s; way = Back })) (sym first)
    ∙ l.behind 0 (omega arith) in
    let rest = along f e (a + 1) n xs (omega arith) (record {
      ahead = λ s less. ap (λ (k : ℕ). f (record { edge = e; seg = k; way = Forward })) (next s) ∙ l.ahead (suc s) (omega arith);
      behind = λ s less. ap (λ (k : ℕ). f (record { edge = e; seg = k; way = Back })) (next s) ∙ l.behind (suc s) (omega arith);
    }) in
    cc

edge_by_edge : (f : Dart → ℕ) (edges : List EdgeRow) (paths : List (List ℕ)) → length paths ≡ length edges
    → ((k : ℕ) (row : EdgeRow) → slice_get edges k ≡ Some row → map f (darts_of row) ≡ halves_of (slice_index_or paths k []))
    → map f (flat_map darts_of edges) ≡ flat_map halves_of paths
edge_by_edge f [] [] many each = refl
edge_by_edge f [] (path ∷ paths) many each = absurd (omega arith)
edge_by_edge f (row ∷ edges) [] many each = absurd (omega arith)
edge_by_edge f (row ∷ edges) (path ∷ paths) many each =
    map-append f (darts_of row) (flat_map darts_of edges) ∙ ap (λ (hs : List ℕ). hs ++ map f (flat_map darts_of edges)) (each 0 row refl)
    ∙ ap (λ (hs : List ℕ). halves_of path ++ hs) (edge_by_edge f edges paths (omega arith) (λ k other at. each (suc k) other at))

module _ (p : RowsWithPaths) (good : IsWellFormed p.rows) (r : Rotation) (s : ShowsRows p r) where
  of_edge : (k : ℕ) (row : EdgeRow) → slice_get p.rows.edges k ≡ Some row → map (half_in p) (darts_of row) ≡ halves_of (slice_index_or p.paths k [])
  of_edge k row at =
      let first : position_or_len (λ other. other.id == row.id) p.rows.edges ≡ k =
      sym (placed_here (λ other. other.id) p.rows.edges row.id (edges_rise p.rows p.rows.edges good.paths refl) k row at refl).first in
      let read = λ (i : ℕ). ap (λ (place : ℕ). slice_index_or (slice_index_or p.paths place []) i 0) first in
      let same = λ (i : ℕ). (let is : 0 + i ≡ i = omega arith in is) in
      along (half_in p) row.id 0 (segment_count row) (slice_index_or p.paths k []) (s.along k row at) (record {
        ahead = λ i less. ap (λ (seg : ℕ). half_in p (record { edge = row.id; seg = seg; way = Forward })) (same i) ∙ read i;
        behind = λ i less. ap (λ (seg : ℕ). half_in p (record { edge = row.id; seg = seg; way = Back })) (same i) ∙ ap twin (read i);
      })

  pub in_order : flat_map halves_of p.paths ≡ map (half_in p) (darts p.rows)
  in_order = sym (edge_by_edge (half_in p) p.rows.edges p.paths s.as_many of_edge)
