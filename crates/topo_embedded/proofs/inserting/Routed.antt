-- Rows with their embedding once a new edge is drawn along a route.
use Rattle.std.proofs.Common.{arith, ◌≡◌, ◌++◌, ap, List, [], ◌∷◌, Err, Ok, OnErr, OnOk, Result, subst, sym, true, ℕ, ◌∙◌}
use Rattle.std.specs.Prelude.{map, slice_index_or}
use Rattle.std.specs.List.{All, AllByRecursion}
use Rattle.std.proofs.lemmas.List.Elements.{recursion_from_All}
use Rattle.topo_core.specs.declared.darts.Dart.{Dart}
use Rattle.topo_core.specs.declared.rows.Rows.{Rows}
use Rattle.topo_core.specs.declared.routes.Route.{Route}
use Rattle.topo_core.specs.Changes.{shown}
use Rattle.topo_core.specs.Insertions.{IsInsertable}
use Rattle.topo_core.specs.Lawful.{IsWellFormed}
use Rattle.topo_core.specs.Picture.{darts, index_of}
use Rattle.topo_core.specs.Systems.{has_dart}
use Rattle.topo_core.proofs.Interface.{corner_in, shown_well_formed}
use Rattle.topo_perm.proofs.Interface.{AreAlong, Subdivision, subdivided_number}
use Rattle.topo_map.specs.Rotation.{IsEmbedding, Rotation, is_live, turning_of}
use Rattle.topo_kept_rows.proofs.Interface.{HasInsertionPath, has_insertion_path}
use Rattle.topo_embedded.specs.declared.padding.Crossed.{Crossed}
use Rattle.topo_embedded.specs.Crossing.{AreCrossedAt, AreChordsAdded, HasLabel, HaveLabel, HaveLabels, IsMarked, IsReady, ids_of_edges}
use Rattle.topo_embedded.specs.Crossing.{IsReadyFor, IsRouted, subdivisions_of, subdivided_half, crossed_darts, halves_of}
use Rattle.topo_embedded.specs.Halves.{RowsWithPaths, ShowsRows, half_at}
use Rattle.topo_embedded.specs.Inserting.{put_halves}
use Rattle.topo_embedded.specs.Padding.{ArePadded}
use Rattle.topo_embedded.proofs.inserting.AddedChords.{subdivided_is}
use Rattle.topo_embedded.proofs.growing.Grown.{IsCornerNamed, corner_alive, kept_shows}
use Rattle.topo_embedded.proofs.inserting.InsertedLabels.{AreAllLabelled, shown_labels}
use Rattle.topo_embedded.proofs.inserting.InsertionLaw.{IsDrawn, insertion_shows}

-- labels of paths, with more drawn
labels_still : (r r' : Rotation) → ((id h : ℕ) → HasLabel r id h → HasLabel r' id h) → (id : ℕ) (path : List ℕ) → HaveLabel r id path → HaveLabel r' id path
labels_still r r' keeps id [] a = tt
labels_still r r' keeps id (h ∷ path) a = (keeps id h a.0, labels_still r r' keeps id path a.1)

module _ {p : RowsWithPaths} {r : Rotation} {cs : List Crossed} {u v kind : ℕ} {route : Route} {start end : ℕ}
    (ready : IsReadyFor p r cs u v kind route start end) (now : Rotation) (slots : now.slots ≡ r.slots) where
  shows : ShowsRows p now
  shows = kept_shows p r now slots ready.shows

  pub start_alive : is_live now start ≡ true
  start_alive =
      let at : IsCornerNamed p u route.start start =
      record { formed = ready.formed; vertex = ready.insertable.u_there; position = ready.insertable.start; names = ready.starts } in
      corner_alive at now slots ready.shows

  pub end_alive : is_live now end ≡ true
  end_alive =
      let at : IsCornerNamed p v route.end end =
      record { formed = ready.formed; vertex = ready.insertable.v_there; position = ready.insertable.end; names = ready.ends } in
      corner_alive at now slots ready.shows

  pub ready_now : (paths : List (List ℕ)) → ArePadded (ids_of_edges p.rows) (λ hs. hs) p.paths cs paths → IsReady p now cs paths
  ready_now paths pad = grind (arith, shows)

  pub routed_shows : IsEmbedding now → (after : Rotation) (cs' : List Crossed) → crossed_darts cs' ≡ crossed_darts cs → All (IsMarked p) cs' → (line : List ℕ)
      → IsRouted p now after cs' start end p.rows.next_edge line
      → ShowsRows (record { rows = shown p.rows u v kind route; paths = map (put_halves (subdivisions_of p.rows cs')) p.paths ++ line ∷ [] }) after
  routed_shows whole after cs' same marked line routed =
      let js : List Subdivision = subdivisions_of p.rows cs' in
      let h : HasInsertionPath p.rows u v kind route ready.formed = has_insertion_path ready.formed ready.insertable ready.simple in
      let crossed : AreCrossedAt p now route.crossed js = subst (λ (ds : List Dart). AreCrossedAt p now ds js) (same ∙ ready.darts) routed.split.crossed in
      let all : AllByRecursion (IsMarked p) cs' = recursion_from_All (IsMarked p) cs' marked in
      let from_there : has_dart (darts p.rows) h.from ≡ true = corner_in p.rows ready.formed u route.start h.from h.starts in
      let to_there : has_dart (darts p.rows) h.to ≡ true = corner_in p.rows ready.formed v route.end h.to h.ends in
      let first : subdivided_half cs' start ≡ subdivided_number (half_at p) js (index_of p.rows h.from) =
      ap (subdivided_half cs') (ready.starts h.from h.starts) ∙ subdivided_is p ready.formed now shows h.from from_there cs' all in
      let last : subdivided_half cs' end ≡ subdivided_number (half_at p) js (index_of p.rows h.to) = ap (subdivided_half cs') (ready.ends h.to h.ends)
      ∙ subdivided_is p ready.formed now shows h.to to_there cs' all in
      let added : AreChordsAdded routed.middle after cs' (subdivided_half cs' start) (subdivided_half cs' end) p.rows.next_edge line = routed.added in
      let along : AreAlong (subdivided_number (half_at p) js) (subdivided_number (half_at p) js (index_of p.rows h.from)) js (index_of p.rows h.to)
      added.new_chords =
      subst (λ (z : ℕ). AreAlong (subdivided_number (half_at p) js) z js (index_of p.rows h.to) added.new_chords) first
      (added.along p.rows (subdivided_number (half_at p) js) (index_of p.rows h.to) last) in
      let drawn : IsDrawn p now after route.crossed h.from h.to js added.new_chords =
      record { crossed = crossed; along = along; middle = turning_of routed.middle; splits = routed.split.run; chords = added.run } in
      let labels : HaveLabels after p.rows.edges (map (put_halves js) p.paths) =
      λ k row at. labels_still routed.middle after added.keeps row.id (slice_index_or (map (put_halves js) p.paths) k []) (routed.split.labels k row at) in
      let all_labels : AreAllLabelled after p.rows p.paths js (halves_of added.new_chords) =
      record { as_many = shows.as_many; old = labels; new = subst (HaveLabel after p.rows.next_edge) added.halves added.labels } in
      subst (λ (l : List ℕ). ShowsRows (record { rows = shown p.rows u v kind route; paths = map (put_halves js) p.paths ++ l ∷ [] }) after) (sym added.halves)
      (insertion_shows shows whole h ready.insertable.once drawn
      (shown_labels u v kind route all_labels))

-- as the code goes
pub inserted_parts : {p : RowsWithPaths} {r now after : Rotation} {cs cs' : List Crossed} {u v kind : ℕ} {route : Route} {start end edge : ℕ} {line : List ℕ}
    {rows : Rows} {lists paths : List (List ℕ)} → IsReadyFor p r cs u v kind route start end → now.slots ≡ r.slots → IsEmbedding now
    → crossed_darts cs' ≡ crossed_darts cs → All (IsMarked p) cs' → edge ≡ p.rows.next_edge → IsRouted p now after cs' start end edge line
    → rows ≡ shown p.rows u v kind route → lists ≡ map (put_halves (subdivisions_of p.rows cs')) p.paths → paths ≡ lists ++ line ∷ []
    → ShowsRows (record { rows = rows; paths = paths }) after
inserted_parts {p} {now} {after} {cs'} {start} {end} {line} ready slots whole same marked edge_is routed rows_are lists_are paths_are =
    let shows = routed_shows ready now slots whole after cs' same marked line
    (subst (λ (e : ℕ). IsRouted p now after cs' start end e line) edge_is routed) in
    grind (arith, shows)

-- inserted or not
pub inserted_formed : {A E : Type 0} (result : Result A E) {p : RowsWithPaths} {rows new : Rows} {paths : List (List ℕ)} {u v kind : ℕ} {route : Route}
    → (let q : RowsWithPaths = record { rows = rows; paths = paths } in q ≡ p) → IsWellFormed rows → IsInsertable p.rows u v kind route
    → OnOk result (new ≡ shown rows u v kind route) → OnErr result (new ≡ rows) → IsWellFormed new
inserted_formed (Ok a) {rows} {u} {v} {kind} {route} seen good may ok err =
    subst IsWellFormed (sym ok)
    (shown_well_formed rows u v kind route good (subst (λ (rs : Rows). IsInsertable rs u v kind route) (ap (λ (q : RowsWithPaths). q.rows) (sym seen)) may))
inserted_formed (Err e) seen good may ok err = subst IsWellFormed (sym err) good
