-- A picture that shows a new edge along a route is well formed.
use Rattle.std.proofs.Common.{◌≡◌, ◌≢◌, ℕ, suc, ◌+◌, ◌<◌, Bool, true, false, cond, not, ◌&&◌, ◌||◌, List, []}
use Rattle.std.proofs.Common.{◌∷◌, ◌++◌, length, get_or, eqb, refl, sym, ap, subst, ◌∙◌, arith, inl, inr}
use Rattle.std.specs.Prelude.{◌⊎◌, ◌==◌, nat_lt, nat_le, Some, map, is_some, sum_by, if◌then◌else◌}
use Rattle.std.specs.List.{AllByRecursion, list_all, range_with_len}
use Rattle.std.proofs.lemmas.List.{map-append}
use Rattle.std.proofs.lemmas.Simd.{map-map}
use Rattle.std.proofs.lemmas.Bool.Decides.{nat_tests}
use Rattle.std.proofs.lemmas.Bool.{and_from, cases_Bool, eq-eqb, eqb-true, or_left, or_right}
use Rattle.topo_core.specs.declared.darts.Dart.{Dart}
use Rattle.topo_core.specs.declared.rows.Rows.{Rows}
use Rattle.topo_core.specs.declared.rows.EdgeRow.{EdgeRow}
use Rattle.topo_core.specs.declared.rows.CrossRow.{CrossRow}
use Rattle.topo_core.specs.declared.routes.Route.{Route}
use Rattle.topo_core.specs.Items.{IsIn, occurrences, rises_below}
use Rattle.topo_core.specs.Picture.{cross_row, edge_row, rotation, segment_count, vertices}
use Rattle.topo_core.specs.Lawful.{has_good_crossings, has_good_path, has_good_paths, has_good_rotation, has_good_rotations, is_good_crossing, IsWellFormed}
use Rattle.topo_core.specs.Changes.{crossed_row, new_crossing, new_on, numbered, put_in, shown, woven}
use Rattle.topo_core.specs.Insertions.{IsInsertable}
use Rattle.topo_core.proofs.numbering.Counting.{eqb_less, eqb_more, eqb_symm, in_first, lt_test, one, sum_if, sum_nothing, sum_same}
use Rattle.topo_core.proofs.growing.Growing.{all_from, all_range, first_below, first_put_in, in_put_in, le_test}
use Rattle.topo_core.proofs.growing.Growing.{ne_from, neither, none_counted, occurrences-put_in, rises_push}
use Rattle.topo_core.proofs.numbering.Members.{left_true, right_true, test_of_each}
use Rattle.topo_core.proofs.inserting.ShownRows.{crossing_below, edge_below, in_images, known_crossing_below, known_edge_below, new_id_above, newcomer_row}
use Rattle.topo_core.proofs.inserting.ShownRows.{numbered_in, rises_on, row_found, shown_crossings, shown_new_crossing, shown_new_row, shown_old_crossing_there}
use Rattle.topo_core.proofs.inserting.ShownRows.{shown_old_there, shown_rotation_end, shown_rotation_other, shown_rotation_start, shown_rows, shown_vertices}
use Rattle.topo_core.proofs.numbering.Standing.{good_crossing, good_rotation, one_of_both, listed_test, of_rows_is_dart}
use Rattle.topo_core.proofs.systems.SystemDarts.{crossing_there, eqb_self, vertex_in}
use Rattle.topo_core.proofs.inserting.Weaving.{below_never, below_not_counted, in_filter, in_woven, number_counted, number_once, occurrences-woven}
use Rattle.topo_core.proofs.numbering.NumberOrder.{right_holds}
use Rattle.topo_core.specs.declared.rows.TheConstants.{KINDS}

-- ---- Tests and numbers

-- what holds of each item, from the list that says it of all
pub each_of : {X : Type 0} (P : X → Type 0) (xs : List X) → AllByRecursion P xs → (x : X) → IsIn x xs → P x
each_of P [] all x h = absurd h
each_of P (y ∷ xs) all x (inl e) = subst P (sym e) all.0
each_of P (y ∷ xs) all x (inr h) = each_of P xs all.1 x h

-- a test that holds wherever another does
weighed : (t w : Bool) → (t ≡ true → w ≡ true) → cond {A = ℕ} t (one w) 0 ≡ one t
weighed true w h = ap one (h refl)
weighed false w h = refl

or_fails : (t w : Bool) → w ≡ false → (t || w) ≡ t
or_fails true w h = refl
or_fails false w h = h

new_ends : (u v n kind : ℕ) → u < n → v < n → u ≢ v → kind < KINDS → (nat_lt u n && nat_lt v n && not (eqb u v) && nat_lt kind KINDS) ≡ true
new_ends u v n kind u_in v_in apart known = grind (arith, nat_tests)

neither_end : (u v w : ℕ) → u ≢ w → v ≢ w → (eqb u w || eqb v w) ≡ false
neither_end u v w not_u not_v = grind (arith, nat_tests)

-- ---- The new crossings on the paths

module _ (rows : Rows) (u v kind : ℕ) (r : Route) (good : IsWellFormed rows) (may : IsInsertable rows u v kind r) where
  abbrev after : Rows
  after = shown rows u v kind r

  -- a crossed dart is a dart of an edge
  crossed_there : (x : ℕ) (d : Dart) → IsIn (x, d) (numbered rows r) → (row : EdgeRow) × (edge_row rows d.edge ≡ Some row) × (d.seg < segment_count row)
  crossed_there x d h = grind (arith, each_of, numbered_in, of_rows_is_dart, listed_test)

  -- its edge is not the new one
  crossed_known : (x : ℕ) (d : Dart) → IsIn (x, d) (numbered rows r) → is_some (edge_row rows d.edge) ≡ true
  crossed_known x d h = ap is_some (crossed_there x d h).1

  crossed_below : (x : ℕ) (d : Dart) → IsIn (x, d) (numbered rows r) → d.edge < rows.next_edge
  crossed_below x d h = known_edge_below rows good.paths d.edge (crossed_known x d h)

  -- old paths have old crossings
  named_below : (row : EdgeRow) → IsIn row rows.edges → (y : ℕ) → IsIn y row.crossings → y < rows.next_crossing
  named_below row h y named = known_crossing_below rows good.crossings y (crossing_there rows good.paths row h y named)

  -- a new crossing stands once on the path of its crossed edge, and on no other old one
  new_on_old : (x : ℕ) (d : Dart) → IsIn (x, d) (numbered rows r) → (row : EdgeRow) → IsIn row rows.edges
      → occurrences x (woven (new_on rows r row.id) 0 row.crossings) ≡ one (row.id == d.edge)
  new_on_old x d h row row_in =
      let all = occurrences-woven (new_on rows r row.id) 0 x row.crossings in
      let before = none_counted x row.crossings
      (λ y named. let low = named_below row row_in y named in let high = new_id_above rows u v kind r x d h in omega arith) in
      let inside : (d.edge == row.id) ≡ true → nat_lt d.seg (suc (length row.crossings)) ≡ true = λ e.
      let found = crossed_there x d h in
      let there : Some found.0 ≡ Some row = sym found.1 ∙ ap (edge_row rows) (eqb-true d.edge row.id e) ∙ row_found rows good.paths row row_in in
      let same : found.0 ≡ row = cc in
      let segments = found.2 in
      let more : d.seg < segment_count row = subst (λ row. d.seg < segment_count row) same segments in
      lt_test d.seg (suc (length row.crossings)) (omega arith) in
      let new_ones : sum_by (λ i. occurrences x (new_on rows r row.id i)) (range_with_len 0 (suc (length row.crossings))) ≡ one (row.id == d.edge) =
      sum_same (λ i. occurrences x (new_on rows r row.id i)) (λ i. cond {A = ℕ} (d.edge == row.id) (one (d.seg == i)) 0)
      (range_with_len 0 (suc (length row.crossings)))
      (λ i _. number_counted (λ y. y.1.edge == row.id && y.1.seg == i) rows.next_crossing x d r.crossed h ∙ one_of_both (d.edge == row.id) (d.seg == i))
      ∙ sum_if (d.edge == row.id) (λ i. one (d.seg == i)) (range_with_len 0 (suc (length row.crossings)))
      ∙ ap (λ (n : ℕ). cond {A = ℕ} (d.edge == row.id) n 0) (in_first d.seg (suc (length row.crossings)))
      ∙ weighed (d.edge == row.id) (nat_lt d.seg (suc (length row.crossings))) inside
      ∙ ap one (eqb_symm d.edge row.id) in
      omega arith

  -- an old crossing stands in a path as often as before
  old_on_old : (x : ℕ) → x < rows.next_crossing → (row : EdgeRow) → occurrences x (woven (new_on rows r row.id) 0 row.crossings) ≡ occurrences x row.crossings
  old_on_old x low row =
      let all = occurrences-woven (new_on rows r row.id) 0 x row.crossings in
      let none = sum_nothing (λ i. occurrences x (new_on rows r row.id i)) (range_with_len 0 (suc (length row.crossings)))
      (λ i _. below_not_counted (λ y. y.1.edge == row.id && y.1.seg == i) rows.next_crossing x r.crossed low) in
      omega arith

  -- ---- Good crossings

  old_crossing_good : (x : CrossRow) → IsIn x rows.crossings → is_good_crossing after x ≡ true
  old_crossing_good x h =
      let facts = good_crossing rows good.crossings x h in
      let low = crossing_below rows good.crossings x h in
      and_from _ _ (and_from _ _ (and_from _ _
      (ap not facts.apart)
      (shown_old_there rows u v kind r x.crossed facts.crossed))
      (shown_old_there rows u v kind r x.newcomer facts.newcomer))
      (all_from (λ row. occurrences x.id row.crossings == (if row.id == x.crossed || row.id == x.newcomer then 1 else 0)) after.edges
      (λ row k. elim (shown_rows rows u v kind r row k) [
        | inl (old, in_old, is) ↦ ap (λ (row : EdgeRow). occurrences x.id row.crossings == (if row.id == x.crossed || row.id == x.newcomer then 1 else 0)) is
            ∙ eq-eqb _ _ (old_on_old x.id low old ∙ facts.counted old in_old)
        | inr is ↦ ap (λ (row : EdgeRow). occurrences x.id row.crossings == (if row.id == x.crossed || row.id == x.newcomer then 1 else 0)) is
            ∙ eq-eqb _ _ (below_never rows.next_crossing x.id r.crossed low
            ∙ sym (neither rows.next_edge x.crossed x.newcomer (known_edge_below rows good.paths x.crossed facts.crossed)
            (known_edge_below rows good.paths x.newcomer facts.newcomer)))
      ]))

  new_crossing_good : (x : ℕ) (d : Dart) → IsIn (x, d) (numbered rows r) → is_good_crossing after (new_crossing rows.next_edge (x, d)) ≡ true
  new_crossing_good x d h =
      let low = crossed_below x d h in
      and_from _ _ (and_from _ _ (and_from _ _
      (ap not (eqb_less d.edge rows.next_edge low))
      (shown_old_there rows u v kind r d.edge (crossed_known x d h)))
      (ap is_some (shown_new_row rows u v kind r good.paths)))
      (all_from (λ row. occurrences x row.crossings == (if row.id == d.edge || row.id == rows.next_edge then 1 else 0)) after.edges
      (λ row k. elim (shown_rows rows u v kind r row k) [
        | inl (old, in_old, is) ↦ ap (λ (row : EdgeRow). occurrences x row.crossings == (if row.id == d.edge || row.id == rows.next_edge then 1 else 0)) is
            ∙ eq-eqb _ _ (new_on_old x d h old in_old
            ∙ sym (ap one (or_fails (old.id == d.edge) (old.id == rows.next_edge) (eqb_less old.id rows.next_edge (edge_below rows good.paths old in_old)))))
        | inr is ↦ ap (λ (row : EdgeRow). occurrences x row.crossings == (if row.id == d.edge || row.id == rows.next_edge then 1 else 0)) is
            ∙ eq-eqb _ _ (number_once rows.next_crossing x d r.crossed h
            ∙ sym (ap one (right_holds (rows.next_edge == d.edge) (rows.next_edge == rows.next_edge) (eqb_self rows.next_edge))))
      ]))

  -- the crossings of the picture are good
  pub shown_good_crossings : has_good_crossings after ≡ true
  shown_good_crossings = and_from (rises_below after.next_crossing (map (λ x. x.id) after.crossings)) (list_all (is_good_crossing after) after.crossings)
      (ap (rises_below after.next_crossing) (map-append (λ x. x.id) rows.crossings (map (new_crossing rows.next_edge) (numbered rows r))
      ∙ ap (λ ids. map (λ x. x.id) rows.crossings ++ ids) (map-map (λ x. x.id) (new_crossing rows.next_edge) (numbered rows r)))
      ∙ rises_on (map (λ x. x.id) rows.crossings) rows.next_crossing r.crossed (left_true _ (list_all (is_good_crossing rows) rows.crossings) good.crossings))
      (all_from (is_good_crossing after) after.crossings (λ x h. elim (shown_crossings rows u v kind r x h) [
        | inl old ↦ old_crossing_good x old
        | inr (y, d, k, is) ↦ ap (is_good_crossing after) is ∙ new_crossing_good y d k
      ]))

  -- ---- Good paths

  -- a new crossing of a path is there
  named_there : (x : ℕ) (d : Dart) → IsIn (x, d) (numbered rows r) → is_some (cross_row after x) ≡ true
  named_there x d h = ap is_some (shown_new_crossing rows u v kind r good.crossings x d h)

  old_path_good : (row : EdgeRow) → IsIn row rows.edges → has_good_path after (crossed_row rows r row) ≡ true
  old_path_good row h =
      let test = test_of_each (has_good_path rows) row rows.edges
      (right_true (rises_below rows.next_edge (map (λ row. row.id) rows.edges)) (list_all (has_good_path rows) rows.edges) good.paths) h in
      and_from _ (list_all (λ x. is_some (cross_row after x)) (woven (new_on rows r row.id) 0 row.crossings))
      (subst (λ n. (nat_lt row.a n && nat_lt row.b n && not (row.a == row.b) && nat_lt row.kind KINDS) ≡ true) (sym (shown_vertices rows u v kind r))
      (left_true _ _ test))
      (all_from (λ x. is_some (cross_row after x)) (woven (new_on rows r row.id) 0 row.crossings)
      (λ x k. elim (in_woven (new_on rows r row.id) 0 x row.crossings k) [
        | inl old ↦ shown_old_crossing_there rows u v kind r x (crossing_there rows good.paths row h x old)
        | inr (i, new) ↦
            let image = in_images (λ y. y.0) x _ new in
            ap (λ y. is_some (cross_row after y)) image.2
            ∙ named_there image.0.0 image.0.1 (in_filter (λ y. y.1.edge == row.id && y.1.seg == i) image.0 (numbered rows r) image.1)
      ]))

  new_path_good : has_good_path after (newcomer_row rows u v kind r) ≡ true
  new_path_good =
      and_from _ (list_all (λ x. is_some (cross_row after x)) (map (λ y. y.0) (numbered rows r)))
      (subst (λ n. (nat_lt u n && nat_lt v n && not (u == v) && nat_lt kind KINDS) ≡ true) (sym (shown_vertices rows u v kind r))
      (new_ends u v (length rows.rotations) kind may.u_there may.v_there may.ends_apart may.known))
      (all_from (λ x. is_some (cross_row after x)) (map (λ y. y.0) (numbered rows r)) (λ x k.
      let image = in_images (λ y. y.0) x (numbered rows r) k in
      ap (λ y. is_some (cross_row after y)) image.2 ∙ named_there image.0.0 image.0.1 image.1))

  -- the paths of the picture are good
  pub shown_good_paths : has_good_paths after ≡ true
  shown_good_paths = and_from (rises_below (rows.next_edge + 1) (map (λ row. row.id) after.edges)) (list_all (has_good_path after) after.edges)
      (ap (rises_below (rows.next_edge + 1)) (map-append (λ row. row.id) (map (crossed_row rows r) rows.edges) (newcomer_row rows u v kind r ∷ [])
      ∙ ap (λ ids. ids ++ rows.next_edge ∷ []) (map-map (λ row. row.id) (crossed_row rows r) rows.edges))
      ∙ rises_push rows.next_edge (map (λ row. row.id) rows.edges) (left_true _ (list_all (has_good_path rows) rows.edges) good.paths))
      (all_from (has_good_path after) after.edges (λ row h. elim (shown_rows rows u v kind r row h) [
        | inl (old, k, is) ↦ ap (has_good_path after) is ∙ old_path_good old k
        | inr is ↦ ap (has_good_path after) is ∙ new_path_good
      ]))

  -- ---- Good rotations

  -- a rotation is good if it counts each old edge and the new one as it should, and so on
  assemble : (w : ℕ) (around : List ℕ) → rotation after w ≡ around
      → ((row : EdgeRow) → IsIn row rows.edges → occurrences row.id around ≡ one (row.a == w || row.b == w))
      → occurrences rows.next_edge around ≡ one (u == w || v == w)
      → ((e : ℕ) → IsIn e around → (e ≡ rows.next_edge) ⊎ (is_some (edge_row rows e) ≡ true))
      → ((e : ℕ) → IsIn e around → nat_le (get_or around 0 0) e ≡ true)
      → has_good_rotation after w ≡ true
  assemble w around same old_ones new_one known least = subst
      (λ (list : List ℕ). (list_all (λ row. occurrences row.id list == (if row.a == w || row.b == w then 1 else 0)) after.edges
      && list_all (λ e. is_some (edge_row after e)) list && list_all (nat_le (get_or list 0 0)) list) ≡ true)
      (sym same)
      (and_from _ _ (and_from _ _
      (all_from (λ row. occurrences row.id around == (if row.a == w || row.b == w then 1 else 0)) after.edges
      (λ row h. elim (shown_rows rows u v kind r row h) [
        | inl (old, k, is) ↦ ap (λ (row : EdgeRow). occurrences row.id around == (if row.a == w || row.b == w then 1 else 0)) is ∙ eq-eqb _ _ (old_ones old k)
        | inr is ↦ ap (λ (row : EdgeRow). occurrences row.id around == (if row.a == w || row.b == w then 1 else 0)) is ∙ eq-eqb _ _ new_one
      ]))
      (all_from (λ e. is_some (edge_row after e)) around (λ e h. grind (arith, shown_new_row, shown_old_there))))
      (all_from (nat_le (get_or around 0 0)) around least))

  module _ (w : ℕ) (inside : w < length rows.rotations) where
    vertex : IsIn w (vertices rows)
    vertex = vertex_in rows w inside

    least_first : (e : ℕ) → IsIn e (rotation rows w) → nat_le (get_or (rotation rows w) 0 0) e ≡ true
    least_first e h = test_of_each (nat_le (get_or (rotation rows w) 0 0)) e (rotation rows w)
        (right_true _ _ (test_of_each (has_good_rotation rows) w (vertices rows) good.rotations vertex)) h

    entry_below : (e : ℕ) → IsIn e (rotation rows w) → e < rows.next_edge
    entry_below e h = known_edge_below rows good.paths e ((good_rotation rows good.rotations w vertex).known e h)

    -- a vertex that is no end of the new edge keeps its list
    other_good : w ≢ u → w ≢ v → has_good_rotation after w ≡ true
    other_good not_u not_v = assemble w (rotation rows w)
        (shown_rotation_other rows u v kind r w not_u not_v)
        (good_rotation rows good.rotations w vertex).counted
        (none_counted rows.next_edge (rotation rows w) entry_below ∙ sym (ap one (neither_end u v w (λ e. not_u (sym e)) (λ e. not_v (sym e)))))
        (λ e h. inr ((good_rotation rows good.rotations w vertex).known e h))
        least_first

    -- the list of an end has the new edge once
    end_good : (p : ℕ) → p < length (rotation rows w) → rotation after w ≡ put_in p rows.next_edge (rotation rows w) → (u == w || v == w) ≡ true
        → has_good_rotation after w ≡ true
    end_good p there is an_end = assemble w (put_in p rows.next_edge (rotation rows w)) is
        (λ row h.
        let more = occurrences-put_in p rows.next_edge (rotation rows w) row.id in
        let none : one (rows.next_edge == row.id) ≡ 0 = ap one (eqb_more rows.next_edge row.id (edge_below rows good.paths row h)) in
        let before = (good_rotation rows good.rotations w vertex).counted row h in omega arith)
        (let more = occurrences-put_in p rows.next_edge (rotation rows w) rows.next_edge in
        let once : one (rows.next_edge == rows.next_edge) ≡ 1 = ap one (eqb_self rows.next_edge) in
        let before = none_counted rows.next_edge (rotation rows w) entry_below in
        let wanted : one (u == w || v == w) ≡ 1 = ap one an_end in omega arith)
        (λ e h. elim (in_put_in e p rows.next_edge (rotation rows w) h)
        [ inl k ↦ inl k | inr k ↦ inr ((good_rotation rows good.rotations w vertex).known e k) ])
        (λ e h. subst (λ x. nat_le x e ≡ true) (sym (first_put_in p rows.next_edge (rotation rows w) there))
        (elim (in_put_in e p rows.next_edge (rotation rows w) h) [
          | inl k ↦ subst (λ x. nat_le (get_or (rotation rows w) 0 0) x ≡ true) (sym k) (le_test _ _ (first_below (rotation rows w) entry_below there))
          | inr k ↦ least_first e k
        ]))

  start_good : has_good_rotation after u ≡ true
  start_good = end_good u may.u_there r.start may.start (shown_rotation_start rows u v kind r may.u_there may.ends_apart)
      (or_left (u == u) (v == u) (eqb_self u))

  finish_good : has_good_rotation after v ≡ true
  finish_good = end_good v may.v_there r.end may.end (shown_rotation_end rows u v kind r may.v_there may.ends_apart) (or_right (u == v) (v == v) (eqb_self v))

  each_good : (w : ℕ) → w < length rows.rotations → has_good_rotation after w ≡ true
  each_good w inside = grind (arith, cases_Bool, eqb-true, start_good, finish_good, other_good, ne_from)

  -- the rotations of the picture are good
  pub shown_good_rotations : has_good_rotations after ≡ true
  shown_good_rotations = all_range (has_good_rotation after) 0 (length after.rotations) (λ w low high.
      let same = shown_vertices rows u v kind r in each_good w (omega arith))

-- the picture that shows a new edge is well formed
pub shown_well_formed : (rows : Rows) (u v kind : ℕ) (r : Route) → IsWellFormed rows → IsInsertable rows u v kind r → IsWellFormed (shown rows u v kind r)
shown_well_formed rows u v kind r good may = record {
  paths = shown_good_paths rows u v kind r good may;
  crossings = shown_good_crossings rows u v kind r good may;
  rotations = shown_good_rotations rows u v kind r good may;
}
