-- Paths in a table by the ids of their edges: how they are read, changed, put in and taken out.
use Rattle.std.proofs.Common.{◌≡◌, ◌+◌, ap, arith, Bool, cond, false, is_some, length, length-append, List, [], ◌∷◌, ◌++◌, map, None, not, refl, remove}
use Rattle.std.proofs.Common.{Some, subst, sym, take, true, ℕ, ◌∙◌}
use Rattle.std.specs.Prelude.{◌||◌, ◌==◌, filter, find, flat_map, Option, slice_get, slice_index_or}
use Rattle.std.specs.List.{position_or_len}
use Rattle.std.specs.List.Sorted.{IsStrictlyIncreasing}
use Rattle.std.specs.Map.{values_of}
use Rattle.std.proofs.lemmas.Bool.{false≢true}
use Rattle.std.proofs.lemmas.Grind.{flat_map-append}
use Rattle.std.proofs.lemmas.List.{append_assoc, append-nil, length-map, map-append}
use Rattle.std.proofs.lemmas.Option.{get_or_from_slice_get}
use Rattle.indexmap.specs.IndexMap.{set_value_at}
use Rattle.topo_core.specs.declared.rows.EdgeRow.{EdgeRow}
use Rattle.topo_core.specs.declared.rows.Rows.{Rows}
use Rattle.topo_core.specs.declared.routes.Route.{Route}
use Rattle.topo_core.specs.Changes.{crossed_row, grown, shown, without}
use Rattle.topo_core.specs.Items.{has_id}
use Rattle.topo_core.specs.Lawful.{has_good_paths}
use Rattle.topo_core.specs.Picture.{edge_at, edge_row}
use Rattle.topo_core.proofs.Interface.{row_id, some_of}
use Rattle.topo_kept_rows.proofs.Interface.{below_more, ids_stay, more_places}
use Rattle.topo_rows.specs.Ids.{IsPlaceOf}
use Rattle.topo_rows.proofs.Interface.{edges_rise, place_among, placed_here}
use Rattle.topo_table.specs.Places.{AreBelow, IsLiveAt, Places, entries, entry_at, ids_in, ids_of, place_in, present, value_of, values_in, without_id}
use Rattle.topo_table.proofs.Interface.{EntriesRise-present, Rises, Rises-from_increasing, below_same, ids-with_value, ids-without, is_changed, known-id, present-push, value-read, values-with_value}
use Rattle.topo_table.proofs.Interface.{values-without, was_value}
use Rattle.topo_embedded.specs.Canonical.{halves_of}
use Rattle.topo_embedded.specs.Halves.{path_of}
use Rattle.topo_embedded.specs.Paths.{AreForEdges, IsPathAt, KeepsIds, path_in}
use Rattle.topo_embedded.proofs.halves.Numbers.{found_place}

-- ---- A path that is read

-- the value with an id is the path of that edge
pub path_found : (paths : Places (List ℕ)) (e : ℕ) (path : List ℕ) → value_of e (entries paths) ≡ Some path → path ≡ path_in paths e
path_found paths e path at =
    sym (get_or_from_slice_get (values_in paths) (place_in (ids_in paths) e) path [] (value-read e path (entries paths) at))

-- an edge among the ids has a path
pub path_there : (paths : Places (List ℕ)) (e : ℕ) → has_id (ids_in paths) e ≡ true → value_of e (entries paths) ≡ None → ⊥
path_there paths e there none = false≢true (sym (ap is_some none) ∙ known-id e (entries paths) ∙ there)

-- the place of an edge among the ids is its place among the rows
pub place_in_rows : (rows : Rows) (ids : List ℕ) (e : ℕ) → ids ≡ map (λ row. row.id) rows.edges
    → place_in ids e ≡ position_or_len (λ row. row.id == e) rows.edges
place_in_rows rows ids e same = ap (λ (ids : List ℕ). place_in ids e) same ∙ place_among (λ (row : EdgeRow). row.id) e rows.edges

pub path_in_rows : (rows : Rows) (paths : Places (List ℕ)) (e : ℕ) → ids_in paths ≡ map (λ row. row.id) rows.edges
    → path_in paths e ≡ path_of (record { rows = rows; paths = values_in paths }) e
path_in_rows rows paths e same = ap (λ (k : ℕ). slice_index_or (values_in paths) k []) (place_in_rows rows (ids_in paths) e same)

-- an edge is among the ids of the rows where it has a row
has_edge_id : (edges : List EdgeRow) (e : ℕ) → has_id (map (λ row. row.id) edges) e ≡ is_some (find (λ row. row.id == e) edges)
has_edge_id [] e = refl
has_edge_id (row ∷ edges) e = by_test (row.id == e) (has_edge_id edges e) where
  by_test : (t : Bool) → has_id (map (λ row. row.id) edges) e ≡ is_some (find (λ row. row.id == e) edges)
      → (t || has_id (map (λ row. row.id) edges) e) ≡ is_some (cond t (Some row) (find (λ row. row.id == e) edges))
  by_test true rest = refl
  by_test false rest = rest

pub id_among : (rows : Rows) (ids : List ℕ) (e : ℕ) → ids ≡ map (λ row. row.id) rows.edges → is_some (edge_row rows e) ≡ true → has_id ids e ≡ true
id_among rows ids e same there = ap (λ (ids : List ℕ). has_id ids e) same ∙ has_edge_id rows.edges e ∙ there

-- an edge has a path where it has a row
pub known_edge : (rows : Rows) (paths : Places (List ℕ)) (e : ℕ) → ids_in paths ≡ map (λ row. row.id) rows.edges
    → is_some (value_of e (entries paths)) ≡ is_some (edge_row rows e)
known_edge rows paths e same = known-id e (entries paths) ∙ ap (λ (ids : List ℕ). has_id ids e) same ∙ has_edge_id rows.edges e

pub has_path : (rows : Rows) (paths : Places (List ℕ)) (e : ℕ) → ids_in paths ≡ map (λ row. row.id) rows.edges → is_some (edge_row rows e) ≡ true
    → value_of e (entries paths) ≡ None → ⊥
has_path rows paths e same there none = false≢true (sym (ap is_some none) ∙ known_edge rows paths e same ∙ there)

pub no_path : (rows : Rows) (paths : Places (List ℕ)) (e : ℕ) → ids_in paths ≡ map (λ row. row.id) rows.edges → value_of e (entries paths) ≡ None
    → edge_row rows e ≡ None
no_path rows paths e same none = is_none (edge_row rows e) (sym (known_edge rows paths e same) ∙ ap is_some none) where
  is_none : (o : Option EdgeRow) → is_some o ≡ false → o ≡ None
  is_none None h = refl
  is_none (Some row) h = absurd (false≢true (sym h))

pub path_known : (rows : Rows) (paths : Places (List ℕ)) (e : ℕ) (path : List ℕ) → ids_in paths ≡ map (λ row. row.id) rows.edges
    → value_of e (entries paths) ≡ Some path → path ≡ path_of (record { rows = rows; paths = values_in paths }) e
path_known rows paths e path same at = path_found paths e path at ∙ path_in_rows rows paths e same

-- the place of an edge that has a row
pub place_known : (rows : Rows) → has_good_paths rows ≡ true → (e : ℕ) → is_some (edge_row rows e) ≡ true
    → IsPlaceOf rows.edges (λ row. row.id) e (position_or_len (λ row. row.id == e) rows.edges)
place_known rows paths e there =
    let pick = some_of (edge_row rows e) there in
    placed_here (λ (row : EdgeRow). row.id) rows.edges e (edges_rise rows rows.edges paths refl) (position_or_len (λ row. row.id == e) rows.edges) pick.0
    (found_place (λ row. row.id == e) rows.edges pick.0 pick.1) (row_id rows e pick.0 pick.1)

-- ---- A path that is taken out of its place, and another that is put there

module _ (was taken now : Places (List ℕ)) (e place : ℕ) (live : IsLiveAt e place was.slots) (up : IsStrictlyIncreasing (ids_of was.slots))
    (slots : taken.slots ≡ set_value_at was.slots place None) (room : taken.room ≡ was.room) (path : List ℕ)
    (read : slice_get (values_of was.slots) place ≡ Some (Some path)) where
  pub path_taken : path ≡ path_in was e
  path_taken = path_found was e path (was_value was taken now e place live up slots room path read)

  rise : Rises (map (λ e. e.0) (entries was))
  rise = Rises-from_increasing _ (EntriesRise-present was.slots up)

  module _ (new : List ℕ) (put : now.slots ≡ set_value_at taken.slots place (Some new)) (put_room : now.room ≡ taken.room) where
    pub path_put : IsPathAt was now e new
    path_put =
        let at = was_value was taken now e place live up slots room path read in
        let done = is_changed was taken now e place live up slots room new put put_room in
        ap (map (λ e. e.1)) done.entries_are ∙ values-with_value e path new (entries was) rise at

    pub ids_kept : KeepsIds was now
    ids_kept =
        let done = is_changed was taken now e place live up slots room new put put_room in
        (ap (map (λ e. e.0)) done.entries_are ∙ ids-with_value e new (entries was), done.places)

-- as many ids as paths
pub ids_many : (paths : Places (List ℕ)) → length (ids_in paths) ≡ length (values_in paths)
ids_many paths = length-map (entries paths) (λ (e : ℕ × List ℕ). e.0) ∙ sym (length-map (entries paths) (λ (e : ℕ × List ℕ). e.1))

-- one change after others
pub kept_on : (was more now : Places (List ℕ)) → KeepsIds was more → KeepsIds more now → KeepsIds was now
kept_on was more now first next = (next.0 ∙ first.0, (next.1.0 ∙ first.1.0, next.1.1 ∙ first.1.1))

-- ---- One path more, and one fewer

-- the ids of the rows with one more edge
pub ids_grown : (rows : Rows) (u v kind : ℕ) → map (λ row. row.id) (grown rows u v kind).edges ≡ map (λ row. row.id) rows.edges ++ rows.next_edge ∷ []
ids_grown rows u v kind = map-append (λ (row : EdgeRow). row.id) rows.edges _

pub ids_shown : (rows : Rows) (u v kind : ℕ) (route : Route)
    → map (λ row. row.id) (shown rows u v kind route).edges ≡ map (λ row. row.id) rows.edges ++ rows.next_edge ∷ []
ids_shown rows u v kind route = map-append (λ (row : EdgeRow). row.id) (map (crossed_row rows route) rows.edges) _
    ∙ ap (λ (xs : List ℕ). xs ++ rows.next_edge ∷ []) (ids_crossed rows.edges) where
      ids_crossed : (edges : List EdgeRow) → map (λ row. row.id) (map (crossed_row rows route) edges) ≡ map (λ row. row.id) edges
      ids_crossed [] = refl
      ids_crossed (row ∷ edges) = ap (λ (xs : List ℕ). row.id ∷ xs) (ids_crossed edges)

pub values_pushed : (was now : Places (List ℕ)) (id : ℕ) (path : List ℕ) → entries now ≡ entries was ++ (id, path) ∷ []
    → values_in now ≡ values_in was ++ path ∷ []
values_pushed was now id path is = ap (map (λ e. e.1)) is ∙ map-append (λ (e : ℕ × List ℕ). e.1) (entries was) ((id, path) ∷ [])

pub ids_pushed : (was now : Places (List ℕ)) (id : ℕ) (path : List ℕ) → entries now ≡ entries was ++ (id, path) ∷ []
    → ids_in now ≡ ids_in was ++ id ∷ []
ids_pushed was now id path is = ap (map (λ e. e.0)) is ∙ map-append (λ (e : ℕ × List ℕ). e.0) (entries was) ((id, path) ∷ [])

-- the same paths
pub kept_same : (rows : Rows) (was now : Places (List ℕ)) → now.slots ≡ was.slots → AreForEdges rows was → AreForEdges rows now
kept_same rows was now same kept = record {
  ids = ap (λ slots. map (λ e. e.0) (present slots)) same ∙ kept.ids;
  below = subst (AreBelow rows.next_edge) (sym same) kept.below;
  count = ap length same ∙ kept.count;
}

-- as many places, where they have the same ids
pub places_many : (was now : Places (List ℕ)) → ids_of now.slots ≡ ids_of was.slots → length now.slots ≡ length was.slots
places_many was now places =
    sym (length-map now.slots (λ (slot : ℕ × Option (List ℕ)). slot.0)) ∙ ap length places ∙ length-map was.slots (λ (slot : ℕ × Option (List ℕ)). slot.0)

-- the same edges
pub kept_ids : (rows : Rows) (was now : Places (List ℕ)) → ids_in now ≡ ids_in was → ids_of now.slots ≡ ids_of was.slots → AreForEdges rows was
    → AreForEdges rows now
kept_ids rows was now ids places kept = record {
  ids = ids ∙ kept.ids;
  below = below_same rows.next_edge was.slots now.slots places kept.below;
  count = places_many was now places ∙ kept.count;
}

-- the paths with one more are for the rows with one more edge
pub one_more_kept : {rows : Rows} (after : Rows) {was : Places (List ℕ)} (now : Places (List ℕ)) (path : List ℕ) (edge : ℕ) → AreForEdges rows was
    → edge ≡ rows.next_edge → map (λ row. row.id) after.edges ≡ map (λ row. row.id) rows.edges ++ rows.next_edge ∷ []
    → after.next_edge ≡ rows.next_edge + 1 → now.slots ≡ was.slots ++ (edge, Some path) ∷ []
    → entries now ≡ entries was ++ (edge, path) ∷ [] → AreForEdges after now
one_more_kept {rows} after {was} now path edge kept is more next slots entries_are = record {
  ids = ids_pushed was now edge path entries_are ∙ ap (λ (xs : List ℕ). xs ++ edge ∷ []) kept.ids
      ∙ ap (λ (n : ℕ). map (λ row. row.id) rows.edges ++ n ∷ []) is ∙ sym more;
  below = subst (λ (n : ℕ). AreBelow n now.slots) (ap (λ (n : ℕ). n + 1) is ∙ sym next) (subst (AreBelow (edge + 1)) (sym slots)
      (below_more edge (Some path) was.slots (subst (λ (n : ℕ). AreBelow n was.slots) (sym is) kept.below)));
  count = omega (arith, ap length slots, length-append was.slots ((edge, Some path) ∷ []), kept.count, next);
}

module _ (rows : Rows) (was now : Places (List ℕ)) (e : ℕ) (same : ids_in was ≡ map (λ row. row.id) rows.edges)
    (is : entries now ≡ without_id e (entries was)) where
  ids_filtered : (edges : List EdgeRow) → filter (λ i. not (i == e)) (map (λ row. row.id) edges) ≡ map (λ row. row.id) (filter (λ row. not (row.id == e)) edges)
  ids_filtered [] = refl
  ids_filtered (row ∷ edges) = by_test (row.id == e) (ids_filtered edges) where
    by_test : (t : Bool) → filter (λ i. not (i == e)) (map (λ row. row.id) edges) ≡ map (λ row. row.id) (filter (λ row. not (row.id == e)) edges)
        → cond (not t) (row.id ∷ filter (λ i. not (i == e)) (map (λ row. row.id) edges)) (filter (λ i. not (i == e)) (map (λ row. row.id) edges))
        ≡ map (λ row. row.id) (cond {A = List EdgeRow} (not t) (row ∷ filter (λ row. not (row.id == e)) edges) (filter (λ row. not (row.id == e)) edges))
    by_test true rest = rest
    by_test false rest = ap (λ (xs : List ℕ). row.id ∷ xs) rest

  -- the ids without that of the edge are those of the rows without it
  pub ids_left : ids_in now ≡ map (λ row. row.id) (without rows e).edges
  ids_left =
      ap (map (λ e. e.0)) is ∙ ids-without e (entries was) ∙ ap (filter (λ i. not (i == e))) same ∙ ids_filtered rows.edges
      ∙ sym (ids_stay (edge_at rows e).crossings (filter (λ row. not (row.id == e)) rows.edges))

  pub values_left : IsStrictlyIncreasing (map (λ row. row.id) rows.edges) → is_some (edge_row rows e) ≡ true
      → values_in now ≡ remove (values_in was) (position_or_len (λ row. row.id == e) rows.edges)
  values_left up there =
      let pick = some_of (value_of e (entries was)) (known_edge rows was e same ∙ there) in
      ap (map (λ e. e.1)) is
      ∙ values-without e pick.0 (entries was) (Rises-from_increasing _ (subst IsStrictlyIncreasing (sym same) up)) pick.1
      ∙ ap (λ (k : ℕ). remove (values_in was) k) (place_in_rows rows (ids_in was) e same)

-- ---- Halves of the paths, place by place

-- the paths at the places so far, and one more
pub more_halves : (slots : List (ℕ × Option (List ℕ))) (i id : ℕ) (path start halves now : List ℕ) → slice_get slots i ≡ Some (id, Some path)
    → halves ≡ start ++ flat_map halves_of (map (λ e. e.1) (present (take i slots))) → now ≡ halves ++ halves_of path
    → now ≡ start ++ flat_map halves_of (map (λ e. e.1) (present (take (i + 1) slots)))
more_halves slots i id path start halves now at is more =
    let so_far = map (λ (e : ℕ × List ℕ). e.1) (present (take i slots)) in
    let next : map (λ e. e.1) (present (take (i + 1) slots)) ≡ so_far ++ path ∷ [] =
    ap (λ ss. map (λ e. e.1) (present ss)) (more_places slots i (id, Some path) at) ∙ ap (map (λ e. e.1)) (present-push id path (take i slots))
    ∙ map-append (λ (e : ℕ × List ℕ). e.1) (present (take i slots)) ((id, path) ∷ []) in
    more ∙ ap (λ (hs : List ℕ). hs ++ halves_of path) is
    ∙ append_assoc start (flat_map halves_of so_far) (halves_of path)
    ∙ ap (λ (hs : List ℕ). start ++ (flat_map halves_of so_far ++ hs)) (sym (append-nil (halves_of path)))
    ∙ ap (λ (hs : List ℕ). start ++ hs) (sym (ap (flat_map halves_of) next ∙ flat_map-append halves_of so_far (path ∷ [])))

-- and an empty place
pub same_halves : (slots : List (ℕ × Option (List ℕ))) (i id : ℕ) (start halves : List ℕ) → slice_get slots i ≡ Some (id, None)
    → halves ≡ start ++ flat_map halves_of (map (λ e. e.1) (present (take i slots)))
    → halves ≡ start ++ flat_map halves_of (map (λ e. e.1) (present (take (i + 1) slots)))
same_halves slots i id start halves at is =
    is ∙ ap (λ ps. start ++ flat_map halves_of (map (λ e. e.1) ps))
    (sym (ap present (more_places slots i (id, None) at) ∙ flat_map-append entry_at (take i slots) ((id, None) ∷ []) ∙ append-nil (present (take i slots))))
