-- One crossed segment more is split.
use Rattle.std.proofs.Common.{◌≡◌, ◌≢◌, ◌<◌, ◌≤◌, ◌+◌, ap, append-nil, append_assoc, arith, Bool, drop, false, get_or, length}
use Rattle.std.proofs.Common.{length-set, List, [], ◌∷◌, ◌++◌, inl, inr, refl, set, subst, suc, sym, take, true, zero, ℕ, ◌∙◌}
use Rattle.std.specs.Prelude.{◌&&◌, ◌||◌, ◌==◌, cond, find, is_some, map, slice_get, slice_index_or, Some}
use Rattle.std.specs.List.{All, AllByRecursion, position_or_len}
use Rattle.std.proofs.lemmas.Bool.{false≢true, cases_Bool}
use Rattle.std.proofs.Math.Seq.{map-set_same}
use Rattle.std.proofs.lemmas.List.{drop-set, drop_all, ext_get_or, length-map, take-set, take_all}
use Rattle.std.proofs.lemmas.List.Elements.{All-from_get_or, All-set, recursion_from_All}
use Rattle.topo_core.specs.declared.darts.Dart.{Dart}
use Rattle.topo_core.specs.declared.rows.EdgeRow.{EdgeRow}
use Rattle.topo_core.specs.Darts.{dart_twin}
use Rattle.topo_core.specs.Edits.{IsSplit}
use Rattle.topo_core.specs.Insertions.{CrossesOnce, same_segment}
use Rattle.topo_core.specs.Lawful.{IsWellFormed}
use Rattle.topo_core.specs.Items.{has_id}
use Rattle.topo_core.specs.declared.rows.Rows.{Rows}
use Rattle.topo_core.specs.Picture.{darts, edge_row, index_of}
use Rattle.topo_core.specs.Pictures.{forward}
use Rattle.topo_core.specs.Rotations.{twin}
use Rattle.topo_core.specs.Systems.{has_dart}
use Rattle.topo_core.proofs.Interface.{edge_of_dart, eqb_symm, twin_in}
use Rattle.topo_perm.specs.Runs.{IsRun}
use Rattle.topo_perm.proofs.Interface.{Subdivision, all_map, kept_alive, splits_add, splits_of}
use Rattle.topo_map.specs.Rotation.{AddsLabel, Grows, IsEmbedding, Rotation, edge_of, half_limit, is_live, turn, turning_of}
use Rattle.topo_map.proofs.Interface.{live_half, split_step}
use Rattle.topo_rows.proofs.Interface.{got_within, place_among}
use Rattle.topo_embedded.specs.declared.padding.Crossed.{Crossed}
use Rattle.topo_embedded.specs.Crossing.{AreCrossedAt, AreSplit, AreSplitFrom, HasLabel, HaveLabel, IsMarked, ids_of_edges, subdivisions_of, crossed_darts}
use Rattle.topo_embedded.specs.Halves.{RowsWithPaths, ShowsRows, half_in}
use Rattle.topo_embedded.specs.Inserting.{piece, put_halves}
use Rattle.topo_embedded.specs.Padding.{AreOff, ArePadded, ArePlaced, IsOff, IsOn, IsPlaced, edge_place, pads}
use Rattle.topo_embedded.proofs.halves.Apart.{twin_in_path}
use Rattle.topo_embedded.proofs.inserting.Inserted.{got_map}
use Rattle.topo_embedded.proofs.inserting.InsertedLabels.{split_labels}
use Rattle.topo_embedded.proofs.halves.Numbers.{StandsAt, half_alive, stands_at}
use Rattle.topo_embedded.proofs.halves.OnPaths.{IsAmong, NewOff, along_there, among_split, darts_off, dead_off, off_by_way}
use Rattle.topo_embedded.proofs.halves.OnPaths.{other_paths, own_half, own_path, pieces_stay, put_off, still_among}
use Rattle.topo_embedded.proofs.inserting.Pads.{subdivision, one_changed, pads_fewer, pads_here, pads_same}
use Rattle.topo_embedded.proofs.inserting.Pieces.{put_none}

-- as many darts
pub same_many : (cs was : List Crossed) → crossed_darts cs ≡ crossed_darts was → length cs ≡ length was
same_many cs was same = sym (length-map cs (λ c. c.dart)) ∙ ap (λ (ds : List Dart). length ds) same ∙ length-map was (λ c. c.dart)

-- ---- Runs of splits

-- what was live is
pub alive_still : (before now : Rotation) (js : List Subdivision) (h : ℕ) → IsEmbedding before
    → IsRun half_limit (turning_of before) (splits_of js) (turning_of now) → is_live before h ≡ true → is_live now h ≡ true
alive_still before now js h whole run alive =
    (kept_alive half_limit (turning_of before) (turning_of now) (splits_of js) h (splits_add js) run (live_half before h whole alive)).alive

-- with no room more the lists are the changed ones
put_everywhere : (ids : List ℕ) (js : List Subdivision) (was now : List (List ℕ)) → ArePadded ids (put_halves js) was [] now → now ≡ map (put_halves js) was
put_everywhere ids js was now p =
    let long = length-map was (put_halves js) in
    ext_get_or [] now (map (put_halves js) was) (p.as_many ∙ sym long) (λ k less. p.each k (omega (arith, p.as_many, less))
    ∙ append-nil (put_halves js (slice_index_or was k [])) ∙ sym (got_map (put_halves js) (put_none js) was k))

-- ---- Places of edges

-- the place of a crossed edge among the ids of the edges
pub edge_place_is : (rows : Rows) (c : Crossed) → edge_place (ids_of_edges rows) c ≡ position_or_len (λ row. row.id == c.dart.edge) rows.edges
edge_place_is rows c = place_among (λ (row : EdgeRow). row.id) c.dart.edge rows.edges

-- an edge that is there is among the ids
pub edge_among : (rows : Rows) (e : ℕ) → is_some (edge_row rows e) ≡ true → has_id (ids_of_edges rows) e ≡ true
edge_among rows e there = among rows.edges there where
  among : (edges : List EdgeRow) → is_some (find (λ row. row.id == e) edges) ≡ true → has_id (map (λ row. row.id) edges) e ≡ true
  among [] h = absurd (false≢true h)
  among (row ∷ edges) h = by_test (row.id == e) h (among edges) where
    by_test : (t : Bool) → is_some (cond t (Some row) (find (λ row. row.id == e) edges)) ≡ true
        → (is_some (find (λ row. row.id == e) edges) ≡ true → has_id (map (λ row. row.id) edges) e ≡ true) → (t || has_id (map (λ row. row.id) edges) e) ≡ true
    by_test true h rest = refl
    by_test false h rest = rest h

-- ---- Crossed darts

turned_about : (c d : Dart) → same_segment d c ≡ false → same_segment c d ≡ false
turned_about c d off = ap (λ (b : Bool). b && c.seg == d.seg) (eqb_symm c.edge d.edge) ∙ ap (λ (b : Bool). d.edge == c.edge && b) (eqb_symm c.seg d.seg) ∙ off

once_at : (cs : List Crossed) (n : ℕ) (c : Crossed) → n < length cs → CrossesOnce (crossed_darts cs)
    → AllByRecursion (λ b. same_segment (get_or cs n c).dart b ≡ false) (crossed_darts (drop (suc n) cs))
once_at [] n c less once = absurd (omega arith)
once_at (k ∷ cs) zero c less once = once.0
once_at (k ∷ cs) (suc n) c less once = once_at cs n c (omega arith) once.1

module _ (p : RowsWithPaths) (good : IsWellFormed p.rows) (r : Rotation) (s : ShowsRows p r) where
  -- the list of a crossed edge is there
  pub marked_placed : (c : Crossed) → IsMarked p c → edge_place (ids_of_edges p.rows) c < length p.paths
  marked_placed c is =
      let st : StandsAt p.rows c.dart = stands_at p.rows good c.dart is.there in
      let inside = got_within p.rows.edges (position_or_len (λ (row : EdgeRow). row.id == c.dart.edge) p.rows.edges) st.row st.at in
      let place = edge_place_is p.rows c in
      omega (arith, s.as_many, inside, place)

  pub marked_here : (c : Crossed) → IsMarked p c → IsPlaced (ids_of_edges p.rows) c
  marked_here c is = edge_among p.rows c.dart.edge (edge_of_dart p.rows good c.dart is.there)

  pub all_placed_here : (cs : List Crossed) → All (IsMarked p) cs → (ids : List ℕ) → ids ≡ ids_of_edges p.rows → ArePlaced ids cs
  all_placed_here cs all ids same k d less =
      subst (λ (ids : List ℕ). IsPlaced ids (slice_index_or cs k d)) (sym same) (marked_here (slice_index_or cs k d) (all k d less))

-- a half is split, and both parts keep its label
pub record IsHalfSplit (before after : Rotation) (near x : ℕ) : Type 0 where
  pub edit : IsSplit (turn before) (turn after) half_limit near x
  pub grows : Grows before after x
  pub label : AddsLabel (is_live before) (edge_of before) (edge_of after) x (edge_of before near)

module _ (p : RowsWithPaths) (good : IsWellFormed p.rows) (r : Rotation) (s : ShowsRows p r) (whole : IsEmbedding r) where
  abbrev ids : List ℕ
  ids = ids_of_edges p.rows

  abbrev Is : Dart → Type 0
  Is d = has_dart (darts p.rows) d ≡ true

  new_off : (d : Dart) → Is d → (ds : List Dart) (js : List Subdivision) → AreCrossedAt p r ds js → NewOff (half_in p d) js
  new_off d h [] [] a = tt
  new_off d h [] (j ∷ js) a = absurd a
  new_off d h (c ∷ ds) [] a = absurd a
  new_off d h (c ∷ ds) (j ∷ js) a = ((dead_off p good r s d j.beyond h a.0.new, dead_off p good r s d (twin j.beyond) h a.0.new_back), new_off d h ds js a.1)

  alone : (d : Dart) (h : Is d) (ds : List Dart) (js : List Subdivision) → AreCrossedAt p r ds js → AllByRecursion (λ c. same_segment d c ≡ false) ds
      → AllByRecursion (λ j. IsOff j.near (half_in p (forward d.edge d.seg))) js
  alone d h [] [] a off = tt
  alone d h [] (j ∷ js) a off = absurd a
  alone d h (c ∷ ds) [] a off = absurd a
  alone d h (c ∷ ds) (j ∷ js) a off = (
    off_by_way p good r s j.near d.edge d.seg d.way (subst (λ (near : ℕ). IsOff near (half_in p d)) (sym a.0.near)
        (darts_off p good r s c d a.0.there h (turned_about c d off.0))),
    alone d h ds js a.1 off.1,
  )

  module _ {now now' : Rotation} {x : ℕ} (c : Crossed) (cs : List Crossed) (sp : AreSplit p r now cs) (is : IsMarked p c)
      (once : AllByRecursion (λ b. same_segment c.dart b ≡ false) (crossed_darts cs)) (done : IsHalfSplit now now' c.near x) where
    abbrev c' : Crossed
    c' = record { dart = c.dart; near = c.near; beyond = x }

    abbrev js : List Subdivision
    js = subdivisions_of p.rows cs

    abbrev j : Subdivision
    j = record { dart = index_of p.rows c.dart; near = c.near; beyond = x }

    near_alive : is_live r c.near ≡ true
    near_alive = half_alive p good r s c.near (record { dart = c.dart; there = is.there; is = sym is.near })

    dead_before : (a : ℕ) → is_live now a ≡ false → is_live r a ≡ false
    dead_before a dead = elim (cases_Bool (is_live r a)) [
      | inl alive ↦ absurd (false≢true (sym dead ∙ alive_still r now js a whole sp.run alive))
      | inr was_dead ↦ was_dead
    ]

    pub one_split : AreSplit p r now' (c' ∷ cs)
    one_split = record {
      crossed = (
        record {
          there = is.there;
          dart = refl;
          near = is.near;
          new = dead_before x done.grows.live.new;
          new_back = dead_before (twin x) done.grows.live.new_twin;
        },
        sp.crossed,
      );
      run = (turning_of now, sp.run, split_step now now' c.near x sp.whole (alive_still r now js c.near whole sp.run near_alive) done.edit done.grows);
      whole = done.grows.embedding;
      alive = (
        (done.grows.live.here, done.grows.live.here_twin),
        all_map (λ b. (is_live now b.beyond ≡ true) × (is_live now (twin b.beyond) ≡ true)) (λ b. (is_live now' b.beyond ≡ true)
            × (is_live now' (twin b.beyond) ≡ true)) (λ b a. (done.grows.stays b.beyond a.0, done.grows.stays (twin b.beyond) a.1)) cs sp.alive,
      );
      labels = split_labels now now' x (edge_of now c.near) done.grows done.label j refl refl p.rows.edges js p.paths sp.labels;
    }

    -- where the half is on its path
    among : IsAmong c.near c.dart.seg (put_halves js (slice_index_or p.paths (edge_place ids c) []))
    among =
        let own = own_path p good r s c.dart is.there in
        let there : IsAmong (half_in p c.dart) c.dart.seg (put_halves js (slice_index_or p.paths (edge_place ids c) [])) =
        subst (λ (k : ℕ). IsAmong (half_in p c.dart) c.dart.seg (put_halves js (slice_index_or p.paths k []))) (sym (edge_place_is p.rows c))
        (still_among (half_in p c.dart) c.dart.seg js _ (new_off c.dart is.there (crossed_darts cs) js sp.crossed) own
        (subst (λ (half : ℕ). AllByRecursion (λ j. IsOff j.near half) js) (sym (own_half p good r s c.dart is.there))
        (alone c.dart is.there (crossed_darts cs) js sp.crossed once))) in
        subst (λ (near : ℕ). IsAmong near c.dart.seg (put_halves js (slice_index_or p.paths (edge_place ids c) []))) (sym is.near) there

    -- the other paths
    elsewhere : (k : ℕ) → k < length p.paths → k ≢ edge_place ids c
        → put_halves (j ∷ js) (slice_index_or p.paths k []) ≡ put_halves js (slice_index_or p.paths k [])
    elsewhere k less ne =
        let off : AreOff (half_in p c.dart) (slice_index_or p.paths k []) = other_paths p good r s c.dart is.there k less (λ e. ne (e
        ∙ sym (edge_place_is p.rows c))) in
        pieces_stay j (put_halves js (slice_index_or p.paths k []))
        (subst (λ (near : ℕ). AreOff near (put_halves js (slice_index_or p.paths k []))) (sym is.near)
        (put_off (half_in p c.dart) js (slice_index_or p.paths k []) off (new_off c.dart is.there (crossed_darts cs) js sp.crossed)))

    pub one_put : (all : List Crossed) (n : ℕ) (paths : List (List ℕ)) (list : List ℕ) → n < length all → c ≡ get_or all n c → edge_place ids c < length p.paths
        → ArePadded ids (put_halves js) p.paths (take (n + 1) all) paths
        → ((xs ys : List ℕ) (h last : ℕ) → get_or paths (edge_place ids c) [] ≡ xs ++ h ∷ (ys ++ last ∷ []) → c.dart.seg ≤ length xs
        → AreOff c.near xs → IsOn c.near h → list ≡ xs ++ (piece (subdivision c.near x) h ++ ys))
        → ArePadded ids (put_halves (j ∷ js)) p.paths (take n all) (set paths (edge_place ids c) list)
    one_put all n paths list less at placed pad put =
        let hs : List ℕ = slice_index_or p.paths (edge_place ids c) [] in
        let rest : List ℕ = pads ids (edge_place ids c) (take n all) in
        let here : get_or paths (edge_place ids c) [] ≡ among.before ++ among.half ∷ ((among.behind ++ rest) ++ 0 ∷ []) =
        pad.each (edge_place ids c) placed ∙ ap (λ (xs : List ℕ). put_halves js hs ++ xs) (pads_here ids (edge_place ids c) all n c less (ap (λ
        (b : Crossed). edge_place ids b) at))
        ∙ ap (λ (xs : List ℕ). xs ++ (rest ++ 0 ∷ [])) among.is
        ∙ append_assoc among.before (among.half ∷ among.behind) (rest ++ 0 ∷ [])
        ∙ ap (λ (xs : List ℕ). among.before ++ among.half ∷ xs) (sym (append_assoc among.behind rest (0 ∷ []))) in
        let made : list ≡ among.before ++ (piece j among.half ++ (among.behind ++ rest)) =
        put among.before (among.behind ++ rest) among.half 0 here among.late among.before_off among.on in
        one_changed (put_halves (j ∷ js)) (take n all) (edge_place ids c) list pad placed refl
        (λ k lk ne. ap (λ (xs : List ℕ). xs ++ pads ids k (take n all)) (elsewhere k lk ne)
        ∙ ap (λ (xs : List ℕ). put_halves js (slice_index_or p.paths k []) ++ xs)
        (sym (pads_same ids k all n c less (λ e. ne (e ∙ ap (λ (b : Crossed). edge_place ids b) (sym at))))))
        (made ∙ ap (λ (xs : List ℕ). among.before ++ xs) (sym (append_assoc (piece j among.half) among.behind rest))
        ∙ sym (append_assoc among.before (piece j among.half ++ among.behind) rest)
        ∙ ap (λ (xs : List ℕ). xs ++ rest) (sym (among_split j c.dart.seg (put_halves js hs) among)))
        (λ k lk more. pad.some k lk (pads_fewer ids k all n c less more))

  -- one step of the loop
  pub split_more : {was cs : List Crossed} (n : ℕ) (c : Crossed) {now now' : Rotation} {x : ℕ} {paths : List (List ℕ)} (list : List ℕ)
      → CrossesOnce (crossed_darts was) → n < length cs → c ≡ get_or cs n c → edge_place ids c < length p.paths → AreSplitFrom p r now was cs (n + 1) paths
      → IsHalfSplit now now' c.near x
      → ((xs ys : List ℕ) (h last : ℕ) → get_or paths (edge_place ids c) [] ≡ xs ++ h ∷ (ys ++ last ∷ []) → c.dart.seg ≤ length xs
      → AreOff c.near xs → IsOn c.near h → list ≡ xs ++ (piece (subdivision c.near x) h ++ ys))
      → AreSplitFrom p r now' was (set cs n (record { dart = c.dart; near = c.near; beyond = x })) n (set paths (edge_place ids c) list)
  split_more {cs} n c {now'} {x} {paths} list once less at placed from done put =
      let new : Crossed = record { dart = c.dart; near = c.near; beyond = x } in
      let rest : List Crossed = drop (n + 1) cs in
      let next : n + 1 ≡ suc n = omega arith in
      let is : IsMarked p c = subst (IsMarked p) (sym at) (from.marked n c less) in
      let once_here : AllByRecursion (λ b. same_segment c.dart b ≡ false) (crossed_darts rest) =
      subst (λ (b : Crossed). AllByRecursion (λ d. same_segment b.dart d ≡ false) (crossed_darts rest)) (sym at)
      (subst (λ (k : ℕ). AllByRecursion (λ d. same_segment (get_or cs n c).dart d ≡ false) (crossed_darts (drop k cs))) (sym next)
      (once_at cs n c less (subst CrossesOnce (sym from.darts) once))) in
      let dropped : drop n (set cs n new) ≡ new ∷ rest = drop-set cs n new less in
      let taken : take n (set cs n new) ≡ take n cs = take-set cs n new in
      let split : AreSplit p r now' (new ∷ rest) = one_split c rest from.split is once_here done in
      let put_now : ArePadded ids (put_halves (subdivisions_of p.rows (new ∷ rest))) p.paths (take n cs) (set paths (edge_place ids c) list) =
      one_put c rest from.split is once_here done cs n paths list less at placed from.padded put in
      let long = length-set cs n new in
      record {
        within = omega (arith, less, long);
        darts = map-set_same (λ (b : Crossed). b.dart) cs n new c (ap (λ (b : Crossed). b.dart) at) ∙ from.darts;
        marked = All-set (IsMarked p) cs n new (record { there = is.there; near = is.near }) from.marked;
        split = subst (AreSplit p r now') (sym dropped) split;
        padded = subst (λ (xs : List Crossed). ArePadded ids (put_halves (subdivisions_of p.rows xs)) p.paths (take n (set cs n new)) (set paths
            (edge_place ids c) list))
            (sym dropped)
            (subst (λ (xs : List Crossed). ArePadded ids (put_halves (subdivisions_of p.rows (new ∷ rest))) p.paths xs (set paths (edge_place ids c) list))
            (sym taken) put_now);
        room = (let less_room = done.grows.room_less in let so_far = from.room in omega (arith, less_room, so_far, long));
      }

  pub marked_alive : (now : Rotation) (was cs : List Crossed) (n : ℕ) (c : Crossed) (paths : List (List ℕ)) → AreSplitFrom p r now was cs n paths → IsMarked p c
      → is_live now c.near ≡ true
  marked_alive now was cs n c paths from is = alive_still r now (subdivisions_of p.rows (drop n cs)) c.near whole from.split.run
      (half_alive p good r s c.near (record { dart = c.dart; there = is.there; is = sym is.near }))

  -- before and behind the loop
  pub split_none : (cs : List Crossed) (paths : List (List ℕ)) → All (IsMarked p) cs → ArePadded ids (λ hs. hs) p.paths cs paths
      → AreSplitFrom p r r cs cs (length cs) paths
  split_none cs paths all pad =
      let none : drop (length cs) cs ≡ [] = drop_all (length cs) cs (omega arith) in
      let every : take (length cs) cs ≡ cs = take_all (length cs) cs (omega arith) in
      record {
        within = omega arith;
        darts = refl;
        marked = all;
        split = subst (AreSplit p r r) (sym none) (record {
          crossed = tt;
          run = refl;
          whole = whole;
          alive = tt;
          labels = λ k row at. subst (HaveLabel r row.id) (sym (got_map (put_halves []) refl p.paths k)) (path_labels k row at);
        });
        padded = subst (λ (xs : List Crossed). ArePadded ids (put_halves (subdivisions_of p.rows xs)) p.paths (take (length cs) cs) paths) (sym none)
            (subst (λ (xs : List Crossed). ArePadded ids (λ hs. hs) p.paths xs paths) (sym every) pad);
        room = refl;
      }
    where
      label_at : (k : ℕ) (row : EdgeRow) → slice_get p.rows.edges k ≡ Some row → (i : ℕ) → i < length (slice_index_or p.paths k [])
          → HasLabel r row.id (slice_index_or (slice_index_or p.paths k []) i 0)
      label_at k row at i less =
          let (there, is) = along_there p good r s k row at i less in
          let back : has_dart (darts p.rows) (dart_twin (forward row.id i)) ≡ true = twin_in p.rows (forward row.id i) there in
          grind (arith, twin_in_path, half_alive)

      path_labels : (k : ℕ) (row : EdgeRow) → slice_get p.rows.edges k ≡ Some row → HaveLabel r row.id (slice_index_or p.paths k [])
      path_labels k row at = recursion_from_All (HasLabel r row.id) (slice_index_or p.paths k [])
          (All-from_get_or (HasLabel r row.id) (slice_index_or p.paths k []) 0 (label_at k row at))

  pub split_all : (now : Rotation) (was cs : List Crossed) (n : ℕ) (paths : List (List ℕ)) → n ≡ 0 → AreSplitFrom p r now was cs n paths → AreSplit p r now cs
      × (paths ≡ map (put_halves (subdivisions_of p.rows cs)) p.paths)
  split_all now was cs n paths none from =
      let whole = subst (λ (k : ℕ). AreSplitFrom p r now was cs k paths) none from in
      (whole.split, put_everywhere ids (subdivisions_of p.rows cs) p.paths paths whole.padded)
