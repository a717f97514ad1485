-- The embedding after an insertion shows the rows with the new edge.
use Rattle.std.proofs.Common.{◌≡◌, ◌<◌, ◌+◌, ap, arith, inl, inr, length, List, [], refl, subst, sym, true, ℕ, ◌∙◌}
use Rattle.std.specs.Prelude.{◌==◌, Option, slice_get, slice_index_or, Some, unwrap_or}
use Rattle.std.specs.List.{position_or_len}
use Rattle.std.proofs.lemmas.List.{length-append, length-map}
use Rattle.std.proofs.lemmas.List.FromFn.{length-enumerate_from}
use Rattle.topo_core.specs.declared.darts.Dart.{Dart}
use Rattle.topo_core.specs.declared.darts.Way.{Way}
use Rattle.topo_core.specs.declared.darts.Way.TheVariants.{Forward}
use Rattle.topo_core.specs.declared.rows.EdgeRow.{EdgeRow}
use Rattle.topo_core.specs.declared.rows.Rows.{Rows}
use Rattle.topo_core.specs.declared.routes.Route.{Route}
use Rattle.topo_core.specs.Changes.{numbered, shown}
use Rattle.topo_core.specs.Cycles.{map_of}
use Rattle.topo_core.specs.Insertions.{CrossesOnce, ShowsTurns}
use Rattle.topo_core.specs.Lawful.{IsWellFormed}
use Rattle.topo_core.specs.Picture.{darts, edge_row, segment_count, turn_images}
use Rattle.topo_core.specs.Systems.{has_dart}
use Rattle.topo_core.proofs.Interface.{edge_at_row, get_there, has_at, images_length, index_of_get, newcomer_row, shown_edges}
use Rattle.topo_perm.specs.Renumbering.{RenumbersTurn}
use Rattle.topo_perm.proofs.Interface.{Subdivision}
use Rattle.topo_map.specs.Rotation.{Rotation, edge_of, half_limit, is_live, turn}
use Rattle.topo_rows.specs.Ids.{IsPlaceOf}
use Rattle.topo_rows.proofs.Interface.{edges_rise, placed_here}
use Rattle.topo_embedded.specs.Crossing.{AreCrossedAt}
use Rattle.topo_embedded.specs.Halves.{RowsWithPaths, ShowsRows, by_way, half_at, half_in, path_of}
use Rattle.topo_embedded.proofs.inserting.Inserted.{AreInserted, all_have, inserted, path_new, path_old}
use Rattle.topo_embedded.proofs.halves.Made.{agreeing_numbers}
use Rattle.topo_embedded.proofs.halves.Numbers.{StandsAt, stands_at}
use Rattle.topo_embedded.proofs.inserting.PutPaths.{put_many}

-- both halves of each segment of a path have the label
pub record IsLabelledPath (label : ℕ → ℕ) (id : ℕ) (path : List ℕ) : Type 0 where
  pub each : (i : ℕ) (w : Way) → i < length path → label (by_way (slice_index_or path i 0) w) ≡ id

-- each path is labelled by the id of its edge
pub record AreLabelledPaths (label : ℕ → ℕ) (edges : List EdgeRow) (paths : List (List ℕ)) : Type 0 where
  pub each : (k : ℕ) (row : EdgeRow) → slice_get edges k ≡ Some row → IsLabelledPath label row.id (slice_index_or paths k [])

module _ (p : RowsWithPaths) (good : IsWellFormed p.rows) (r : Rotation) (s : ShowsRows p r) (u v kind : ℕ) (route : Route) (once : CrossesOnce route.crossed)
    (now : IsWellFormed (shown p.rows u v kind route))
    (turns : ShowsTurns p.rows p.rows.next_edge u v route (shown p.rows u v kind route)) (js : List Subdivision) (all : AreCrossedAt p r route.crossed js)
    (line : List ℕ) (long : length line ≡ length route.crossed + 1) where
  abbrev q : Rows
  q = shown p.rows u v kind route

  abbrev after : RowsWithPaths
  after = inserted p good r s u v kind route once now turns js all line

  -- the row at a place is that of its edge
  place_of_row : (k : ℕ) (row : EdgeRow) → slice_get q.edges k ≡ Some row → IsPlaceOf q.edges (λ (x : EdgeRow). x.id) row.id k
  place_of_row k row got = placed_here (λ (x : EdgeRow). x.id) q.edges row.id (edges_rise q q.edges now.paths refl) k row got refl

  path_at : (k : ℕ) (row : EdgeRow) → slice_get q.edges k ≡ Some row → slice_index_or after.paths k [] ≡ path_of after row.id
  path_at k row got = ap (λ (j : ℕ). slice_index_or after.paths j []) (place_of_row k row got).first

  found_row : (k : ℕ) (row : EdgeRow) → slice_get q.edges k ≡ Some row → edge_row q row.id ≡ Some row
  found_row k row got =
      let pl = place_of_row k row got in
      cc

  long_path : (e : ℕ) (row : EdgeRow) → edge_row q e ≡ Some row → length (path_of after e) ≡ segment_count row
  long_path e row found = elim (shown_edges p.rows u v kind route good.paths e row found) [
    | inl old ↦
        ap (λ (xs : List ℕ). length xs) (path_old p good r s u v kind route once now turns js all line e old.0 old.1)
        ∙ put_many p good r s u v kind route once now js all e old.0 old.1 ∙ ap segment_count (edge_at_row q e row found)
    | inr new ↦
        let row_long : length row.crossings ≡ length route.crossed = ap (λ (x : EdgeRow). length x.crossings) new.1
        ∙ length-map (numbered p.rows route) (λ x. x.0) ∙ length-enumerate_from p.rows.next_crossing route.crossed in
        ap (λ (f : ℕ). length (path_of after f)) new.0 ∙ ap (λ (xs : List ℕ). length xs) (path_new p good r s u v kind route once now turns js all line)
        ∙ omega (arith, row_long, long)
  ]

  module _ (r' : Rotation) (number back : ℕ → ℕ) (renumbers : RenumbersTurn number back (map_of (turn_images q)) (turn r') (length (turn_images q))
      (is_live r') half_limit) (n : AreInserted p u v kind route js line number)
      (labels : AreLabelledPaths (edge_of r') q.edges after.paths) where
    label_of : (d : Dart) → has_dart (darts q) d ≡ true → edge_of r' (half_in after d) ≡ d.edge
    label_of d h =
        let st : StandsAt q d = stands_at q now d h in
        let k : ℕ = position_or_len (λ (x : EdgeRow). x.id == d.edge) q.edges in
        let inside : d.seg < length (path_of after d.edge) = omega (arith, long_path d.edge st.row st.found, st.on_path) in
        (labels.each k st.row st.at).each d.seg d.way inside ∙ st.id

    pub inserted_shows : ShowsRows after r'
    inserted_shows = record {
      as_many = grind (arith, length-append, length-map, newcomer_row);
      along = λ k row got. ap (λ (xs : List ℕ). length xs) (path_at k row got) ∙ long_path row.id row (found_row k row got);
      back = back;
      renumbers = agreeing_numbers number (half_at after) back (map_of (turn_images q)) (turn r') (length (turn_images q))
          (is_live r') half_limit renumbers (λ a la.
          let (d, got) = get_there (darts q) a (subst (λ (m : ℕ). a < m) (images_length q) la) in
          let named : half_at after a ≡ half_in after d =
          ap (λ (o : Option Dart). half_in after (unwrap_or o (record { edge = 0; seg = 0; way = Forward }))) got in
          sym (named ∙ all_have p good r s u v kind route once now turns js all line number n d (has_at (darts q) a d got)
          ∙ ap number (index_of_get q now.paths a d got)));
      labels = label_of;
    }
