-- The picture without an edge is well formed.
use Rattle.std.proofs.Common.{◌≡◌, ℕ, ◌<◌, ◌≤◌, true, false, not, ◌&&◌, ◌||◌, List, length, get_or, sym, ap, subst, ◌∙◌, arith}
use Rattle.std.specs.Prelude.{◌==◌, nat_lt, nat_le, filter, is_some, map, if◌then◌else◌}
use Rattle.std.specs.List.{list_all}
use Rattle.std.proofs.lemmas.Simd.{map-map}
use Rattle.std.proofs.lemmas.Bool.{and_from, eq-eqb, not-true}
use Rattle.topo_core.specs.declared.rows.Rows.{Rows}
use Rattle.topo_core.specs.declared.rows.EdgeRow.{EdgeRow}
use Rattle.topo_core.specs.declared.rows.CrossRow.{CrossRow}
use Rattle.topo_core.specs.Items.{has_id, IsIn, occurrences, rises_below}
use Rattle.topo_core.specs.Picture.{cross_row, edge_row, rotation}
use Rattle.topo_core.specs.Lawful.{has_good_crossings, has_good_path, has_good_paths, has_good_rotation, has_good_rotations, is_good_crossing, IsWellFormed}
use Rattle.topo_core.specs.Changes.{uncrossed_row, without}
use Rattle.topo_core.proofs.growing.Growing.{all_from, all_range, le_test}
use Rattle.topo_core.proofs.numbering.Members.{left_true, right_true, test_of_each}
use Rattle.topo_core.proofs.numbering.Standing.{good_crossing, good_rotation}
use Rattle.topo_core.proofs.systems.SystemDarts.{crossing_there, vertex_in}
use Rattle.topo_core.proofs.inserting.Weaving.{in_filter}
use Rattle.topo_core.proofs.deleting.WithoutRows.{filter_passes, from_least_first, gone, in_rotated, is_left, is_uncrossed, left_apart}
use Rattle.topo_core.proofs.deleting.WithoutRows.{occurrences-passing, rises_passing, without_counted, without_crossing, without_crossings}
use Rattle.topo_core.proofs.deleting.WithoutRows.{without_edge_there, without_entry, without_rotated, without_rotation, without_rows, without_vertices}
use Rattle.topo_core.specs.declared.rows.TheConstants.{KINDS}

module _ (rows : Rows) (e : ℕ) (good : IsWellFormed rows) (known : is_some (edge_row rows e) ≡ true) where
  abbrev after : Rows
  after = without rows e

  -- ---- Good crossings

  left_good : (x : CrossRow) → IsIn x rows.crossings → has_id (gone rows e) x.id ≡ false → is_good_crossing after x ≡ true
  left_good x h stays =
      let facts = good_crossing rows good.crossings x h in
      let apart = left_apart rows e good known x h stays in
      and_from _ _ (and_from _ _ (and_from _ _
      (ap not facts.apart)
      (without_edge_there rows e x.crossed apart.0 facts.crossed))
      (without_edge_there rows e x.newcomer apart.1 facts.newcomer))
      (all_from (λ row. occurrences x.id row.crossings == (if row.id == x.crossed || row.id == x.newcomer then 1 else 0)) after.edges (λ row k.
      let old = without_rows rows e row k in
      ap (λ (row : EdgeRow). occurrences x.id row.crossings == (if row.id == x.crossed || row.id == x.newcomer then 1 else 0)) old.3
      ∙ eq-eqb _ _ (occurrences-passing (is_uncrossed rows e) x.id old.0.crossings (ap not stays) ∙ facts.counted old.0 old.1)))

  -- the crossings of the picture are good
  pub without_good_crossings : has_good_crossings after ≡ true
  without_good_crossings = and_from (rises_below rows.next_crossing (map (λ x. x.id) after.crossings)) (list_all (is_good_crossing after) after.crossings)
      (rises_passing (λ x. x.id) (λ x. not (has_id (gone rows e) x.id)) rows.next_crossing rows.crossings
      (left_true _ (list_all (is_good_crossing rows) rows.crossings) good.crossings))
      (all_from (is_good_crossing after) after.crossings (λ x h. let old = without_crossings rows e x h in left_good x old.0 old.1))

  -- ---- Good paths

  left_path_good : (row : EdgeRow) → IsIn row rows.edges → has_good_path after (uncrossed_row (gone rows e) row) ≡ true
  left_path_good row h =
      let test = test_of_each (has_good_path rows) row rows.edges
      (right_true (rises_below rows.next_edge (map (λ row. row.id) rows.edges)) (list_all (has_good_path rows) rows.edges) good.paths) h in
      and_from _ (list_all (λ x. is_some (cross_row after x)) (filter (is_uncrossed rows e) row.crossings))
      (subst (λ n. (nat_lt row.a n && nat_lt row.b n && not (row.a == row.b) && nat_lt row.kind KINDS) ≡ true) (sym (without_vertices rows e))
      (left_true _ _ test))
      (all_from (λ x. is_some (cross_row after x)) (filter (is_uncrossed rows e) row.crossings) (λ x k.
      ap is_some (without_crossing rows e x (not-true (has_id (gone rows e) x) (filter_passes (is_uncrossed rows e) x row.crossings k)))
      ∙ crossing_there rows good.paths row h x (in_filter (is_uncrossed rows e) x row.crossings k)))

  -- the paths of the picture are good
  pub without_good_paths : has_good_paths after ≡ true
  without_good_paths = and_from (rises_below rows.next_edge (map (λ row. row.id) after.edges)) (list_all (has_good_path after) after.edges)
      (ap (rises_below rows.next_edge) (map-map (λ row. row.id) (uncrossed_row (gone rows e)) (filter (is_left rows e) rows.edges))
      ∙ rises_passing (λ row. row.id) (is_left rows e) rows.next_edge rows.edges (left_true _ (list_all (has_good_path rows) rows.edges) good.paths))
      (all_from (has_good_path after) after.edges (λ row h.
      let old = without_rows rows e row h in
      ap (has_good_path after) old.3 ∙ left_path_good old.0 old.1))

  -- ---- Good rotations

  each_good : (v : ℕ) → v < length rows.rotations → has_good_rotation after v ≡ true
  each_good v inside =
      let before = good_rotation rows good.rotations v (vertex_in rows v inside) in
      and_from _ _ (and_from _ _
      (all_from (λ row. occurrences row.id (rotation after v) == (if row.a == v || row.b == v then 1 else 0)) after.edges (λ row h.
      let old = without_rows rows e row h in
      ap (λ (row : EdgeRow). occurrences row.id (rotation after v) == (if row.a == v || row.b == v then 1 else 0)) old.3
      ∙ eq-eqb _ _ (without_counted rows e v old.0.id old.2 ∙ before.counted old.0 old.1)))
      (all_from (λ f. is_some (edge_row after f)) (rotation after v) (λ f h.
      let entry = without_entry rows e v f h in without_edge_there rows e f entry.1 (before.known f entry.0))))
      (all_from (nat_le (get_or (rotation after v) 0 0)) (rotation after v) (λ f h.
      let least = from_least_first (filter (λ f. not (f == e)) (rotation rows v)) f (in_rotated (without_rotated rows e v) f h) in
      le_test _ _ (subst (λ (list : List ℕ). get_or list 0 0 ≤ f) (sym (without_rotation rows e v)) least)))

  -- the rotations of the picture are good
  pub without_good_rotations : has_good_rotations after ≡ true
  without_good_rotations = all_range (has_good_rotation after) 0 (length after.rotations) (λ v low high.
      let same = without_vertices rows e in each_good v (omega arith))

-- the picture without an edge is well formed
pub without_well_formed : (rows : Rows) (e : ℕ) → IsWellFormed rows → is_some (edge_row rows e) ≡ true → IsWellFormed (without rows e)
without_well_formed rows e good known = record {
  paths = without_good_paths rows e good known;
  crossings = without_good_crossings rows e good known;
  rotations = without_good_rotations rows e good known;
}
