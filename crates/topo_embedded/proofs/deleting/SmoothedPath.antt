-- The midpoints that an edge has left are smoothed, and their halves go from the lists of the other edges.
use Rattle.std.proofs.Common.{◌≡◌, ◌≢◌, ◌+◌, ◌-◌, ◌<◌, ◌||◌, ◌&&◌, ap, arith, Bool, false, filter, get_or, inl, inr}
use Rattle.std.proofs.Common.{length, List, [], ◌∷◌, not, refl, set, subst, sym, suc, take, true, zero, ℕ, ◌∙◌}
use Rattle.std.specs.Prelude.{◌==◌, is_some, map, slice_get, slice_index_or, Some}
use Rattle.std.specs.List.{position_or_len, remove}
use Rattle.std.proofs.lemmas.Bool.{cases_Bool, cases_eq, cases_lt, false≢true, ne_eqb}
use Rattle.std.proofs.lemmas.List.{get_or-map, get_or-set_other, get_or-set_same, get_or-take, get_or_default, length-map, length-set, length-take, take_all}
use Rattle.std.proofs.lemmas.List.Edits.{get_or-remove_above, get_or-remove_below, length-remove}
use Rattle.std.proofs.lemmas.Option.{get_or_from_slice_get, slice_get-get_or, slice_get_within}
use Rattle.topo_core.specs.declared.darts.Way.TheVariants.{Forward}
use Rattle.topo_core.specs.declared.rows.EdgeRow.{EdgeRow}
use Rattle.topo_core.specs.declared.rows.Rows.{Rows}
use Rattle.topo_core.specs.Changes.{uncrossed_row, without}
use Rattle.topo_core.specs.Edits.{IsSmooth}
use Rattle.topo_core.specs.Items.{has_id, IsIn}
use Rattle.topo_core.specs.Lawful.{IsWellFormed, Lawful}
use Rattle.topo_core.specs.Picture.{ahead, darts, edge_at, edge_row, index_of}
use Rattle.topo_core.specs.Pictures.{forward}
use Rattle.topo_core.specs.Systems.{has_dart}
use Rattle.topo_core.proofs.Interface.{OtherEdge, ahead_there, dart_of_segment, eqb_symm, filter_whole, has_id_in, item_at, other_edge, row_found, row_id, some_of, without_rows}
use Rattle.topo_perm.specs.Runs.{IsRun, IsStep}
use Rattle.topo_perm.specs.Runs.Edit.{Smooth}
use Rattle.topo_perm.proofs.Interface.{IsSmoothable, smooths_of, still_alive, unchords_of}
use Rattle.topo_map.specs.Rotation.{IsEmbedding, KeepsLabels, Rotation, Shrinks, edge_of, half_limit, is_live, turn, turning_of}
use Rattle.topo_map.proofs.Interface.{live_half, smooth_step}
use Rattle.topo_rows.specs.Ids.{IsPlaceOf}
use Rattle.topo_rows.proofs.Interface.{edges_rise, placed_here}
use Rattle.topo_kept_rows.proofs.Interface.{filter_alike, filter_twice, first_of, in_place, mid_is, rest_is, smoothable_along}
use Rattle.topo_embedded.specs.Deleting.{ArePathsLeft, spared}
use Rattle.topo_embedded.specs.Halves.{RowsWithPaths, ShowsRows, half_at, path_of}
use Rattle.topo_embedded.specs.Opening.{IsOpened, IsOpenTo, IsSetOut, IsSmoothedTo, mid_at, mids_of, without_half}
use Rattle.topo_embedded.proofs.deleting.Aheads.{aheads, AreMidHalves, deleted_shows}
use Rattle.topo_embedded.proofs.halves.LeftHalves.{spared_first}
use Rattle.topo_embedded.proofs.halves.Numbers.{found_place, half_of_number}
use Rattle.topo_embedded.proofs.deleting.OpenedPath.{many as path_length, path_many}
use Rattle.topo_embedded.proofs.deleting.Uncrossed.{uncrossed as uncrossed_path}

-- ---- Lists that halves go from

or_none : (b : Bool) → (b || false) ≡ b
or_none true = refl
or_none false = refl

or_assoc : (a b c : Bool) → (a || (b || c)) ≡ ((a || b) || c)
or_assoc true b c = refl
or_assoc false b c = refl

-- among one more
one_more : (xs : List ℕ) (i y : ℕ) → i < length xs → has_id (take (suc i) xs) y ≡ (has_id (take i xs) y || (get_or xs i 0 == y))
one_more [] i y inside = absurd (omega arith)
one_more (x ∷ xs) zero y inside = or_none (x == y)
one_more (x ∷ xs) (suc i) y inside = ap (λ b. x == y || b) (one_more xs i y (omega arith)) ∙ or_assoc (x == y) (has_id (take i xs) y) (get_or xs i 0 == y)

-- what is not on a list is not on a part of it
taken_none : (i : ℕ) (xs : List ℕ) (y : ℕ) → has_id xs y ≡ false → has_id (take i xs) y ≡ false
taken_none zero xs y none = refl
taken_none (suc i) [] y none = refl
taken_none (suc i) (x ∷ xs) y none = elim (cases_Bool (x == y)) [
  | inl t ↦ absurd (false≢true (sym none ∙ ap (λ b. b || has_id xs y) t))
  | inr f ↦ ap (λ b. b || has_id (take i xs) y) f ∙ taken_none i xs y (sym (ap (λ b. b || has_id xs y) f) ∙ none)
]

-- the midpoints on a path, and how many they are
pub mids_many : (path : List ℕ) → length (mids_of path) ≡ length path - 1
mids_many path = length-take (length path - 1) path ∙ omega arith

pub mid_read : (path : List ℕ) (i half : ℕ) → i < length path - 1 → half ≡ slice_index_or path i 0 → half ≡ slice_index_or (mids_of path) i 0
mid_read path i half li read = read ∙ sym (get_or-take (length path - 1) path i 0 li)

spared_none : (xs : List ℕ) → spared (has_id []) xs ≡ xs
spared_none xs = filter_whole (λ h. not (has_id [] h)) xs (λ h inside. refl)

module _ (mids : List ℕ) (i h : ℕ) (inside : i < length mids) (is : h ≡ get_or mids i 0) where
  -- with h taken out
  spared_more : (xs : List ℕ) → filter (λ x. not (x == h)) (spared (has_id (take i mids)) xs) ≡ spared (has_id (take (suc i) mids)) xs
  spared_more xs =
      filter_twice (λ x. not (x == h)) (λ x. not (has_id (take i mids) x)) xs
      ∙ filter_alike (λ x. not (has_id (take i mids) x) && not (x == h)) (λ x. not (has_id (take (suc i) mids) x)) xs (λ x k.
      neither (has_id (take i mids) x) (x == h)
      ∙ ap not (ap (λ b. has_id (take i mids) x || b) (eqb_symm x h ∙ ap (λ (n : ℕ). n == x) is) ∙ sym (one_more mids i x inside))) where
        neither : (a b : Bool) → (not a && not b) ≡ not (a || b)
        neither true b = refl
        neither false b = refl

  -- where h is none of them
  spared_same : (xs : List ℕ) → ((x : ℕ) → IsIn x xs → x ≢ h) → spared (has_id (take i mids)) xs ≡ spared (has_id (take (suc i) mids)) xs
  spared_same xs apart = filter_alike (λ x. not (has_id (take i mids) x)) (λ x. not (has_id (take (suc i) mids) x)) xs (λ x k.
      ap not (sym (one_more mids i x inside ∙ ap (λ b. has_id (take i mids) x || b) (ne_eqb (get_or mids i 0) x (λ same. apart x k (sym same ∙ sym is)))
      ∙ or_none (has_id (take i mids) x))))

-- ---- Lists by edge

module _ (rows : Rows) (paths : List (List ℕ)) (many : length paths ≡ length rows.edges) where
  abbrev place : ℕ → ℕ
  place c = position_or_len (λ row. row.id == c) rows.edges

  placed : (c : ℕ) → is_some (edge_row rows c) ≡ true → (row : EdgeRow) × (row.id ≡ c) × (slice_get rows.edges (place c) ≡ Some row)
  placed c there = let (row, found) = some_of (edge_row rows c) there in (row, row_id rows c row found, found_place (λ row. row.id == c) rows.edges row found)

  pub place_inside : (c : ℕ) → is_some (edge_row rows c) ≡ true → place c < length paths
  place_inside c there = let (row, named, at) = placed c there in omega (arith, many, slice_get_within rows.edges (place c) row at)

  pub places_apart : (c d : ℕ) → is_some (edge_row rows c) ≡ true → is_some (edge_row rows d) ≡ true → d ≢ c → place d ≢ place c
  places_apart c d c_there d_there apart same = grind (arith, placed)

  -- of another edge
  pub set_apart : (c d : ℕ) (xs : List ℕ) → is_some (edge_row rows c) ≡ true → is_some (edge_row rows d) ≡ true → d ≢ c
      → path_of (record { rows = rows; paths = set paths (place c) xs }) d ≡ path_of (record { rows = rows; paths = paths }) d
  set_apart c d xs c_there d_there apart = get_or-set_other paths (place c) (place d) xs [] (places_apart c d c_there d_there apart)

  set_here : (c : ℕ) (xs : List ℕ) → is_some (edge_row rows c) ≡ true → path_of (record { rows = rows; paths = set paths (place c) xs }) c ≡ xs
  set_here c xs there = get_or-set_same paths (place c) xs [] (place_inside c there)

-- ---- A midpoint smoothed

module _ (rows : Rows) (others : List (List ℕ)) (e : ℕ) (mids : List ℕ) (opened : Rotation) (o : IsOpened rows others e mids opened) where
  abbrev p : RowsWithPaths
  p = record { rows = rows; paths = o.set_out.paths }

  abbrev r : Rotation
  r = o.before

  abbrev last : ℕ
  last = length (edge_at rows e).crossings

  abbrev nu : ℕ → ℕ
  nu = half_at p

  good : IsWellFormed rows
  good = o.set_out.lawful.embedding.well_formed

  abbrev row : EdgeRow
  row = (some_of (edge_row rows e) o.set_out.there).0

  known : edge_row rows e ≡ Some row
  known = (some_of (edge_row rows e) o.set_out.there).1

  pub smoothed_none : IsSmoothedTo p e r opened mids 0 opened others
  smoothed_none = grind (arith, spared_none)

  -- a half on the list of an edge lies on that edge
  label_on : (c : ℕ) → is_some (edge_row rows c) ≡ true → (h : ℕ) → IsIn h (path_of p c) → edge_of r h ≡ c
  label_on c there h inside =
      let (k, less, got) = in_place h (path_of p c) inside in
      let on : has_dart (darts rows) (forward c k) ≡ true =
      dart_of_segment rows good c k Forward there (omega (arith, less, path_many p good r o.set_out.shows c there)) in
      ap (edge_of r) (sym (get_or_from_slice_get (path_of p c) k h 0 got)) ∙ o.set_out.shows.labels (forward c k) on

  are_mids : AreMidHalves p good r o.set_out.shows e row known o.set_out.lawful.embedding.connected o.set_out.lawful.genus_zero mids
  are_mids = record { as_many = o.opened.as_many; each = o.opened.each }

  -- no path begins with a midpoint
  first_stays : (c : ℕ) → is_some (edge_row (without rows e) c) ≡ true → has_id mids (slice_index_or (path_of p c) 0 0) ≡ false
  first_stays c left =
      let goes = aheads p good r o.set_out.shows e row known o.set_out.lawful.embedding.connected o.set_out.lawful.genus_zero mids are_mids in
      (uncrossed_path p good r o.set_out.shows e o.set_out.there (has_id mids) goes c left).first

  -- where a midpoint lies
  record IsMidOn (h : ℕ) : Type 0 where
    other : ℕ
    apart : other ≢ e
    there : is_some (edge_row rows other) ≡ true
    left : is_some (edge_row (without rows e) other) ≡ true
    label : edge_of r h ≡ other

  mid_on : (i : ℕ) → i < last → IsMidOn (nu (mid_at rows e i))
  mid_on i li =
      let (c, x, is, at) = (mid_is rows good e row known o.set_out.lawful.embedding.connected o.set_out.lawful.genus_zero i li).1 in
      let edge : OtherEdge rows e good o.set_out.there c x.id = other_edge rows e good o.set_out.there c x is in
      let here : has_dart (darts rows) (ahead rows c x.id) ≡ true = ahead_there rows e good o.set_out.there c x is in
      record {
        other = c;
        apart = edge.apart;
        there = edge.before;
        left = edge.left;
        label = ap (λ (a : ℕ). edge_of r (nu a)) at ∙ ap (edge_of r) (half_of_number p good (ahead rows c x.id) here)
            ∙ o.set_out.shows.labels (ahead rows c x.id) here;
      }

  module _ (i : ℕ) (now : Rotation) (paths : List (List ℕ)) (st : IsSmoothedTo p e r opened mids i now paths) (li : i < length mids) (half : ℕ)
      (is : half ≡ slice_index_or mids i 0) where
    before_last : i < last
    before_last = omega (arith, o.opened.as_many)

    half_is : half ≡ nu (mid_at rows e i)
    half_is = is ∙ o.opened.each i before_last

    pub can_smooth : IsSmoothable (turning_of now) half_limit half
    can_smooth = subst (IsSmoothable (turning_of now) half_limit) (sym half_is)
        (smoothable_along rows good e row known o.set_out.lawful.embedding.connected o.set_out.lawful.genus_zero nu o.set_out.shows.back half_limit
        (turning_of r) o.set_out.shows.renumbers o.set_out.whole.slab (turning_of opened) (turning_of now) o.opened.run i before_last st.run)

    on : IsMidOn half
    on = subst IsMidOn (sym half_is) (mid_on i before_last)

    label_now : edge_of now half ≡ on.other
    label_now = st.keeps half can_smooth.there.alive ∙ on.label

    pub label_there : is_some (edge_row rows (edge_of now half)) ≡ true
    label_there = ap (λ (c : ℕ). is_some (edge_row rows c)) label_now ∙ on.there

    pub not_first : slice_index_or (path_of (record { rows = rows; paths = paths }) (edge_of now half)) 0 0 ≢ half
    not_first same =
        let stays = first_stays on.other on.left in
        let first : slice_index_or (path_of (record { rows = rows; paths = paths }) (edge_of now half)) 0 0 ≡ slice_index_or (path_of p on.other) 0 0 =
        ap (λ (c : ℕ). slice_index_or (path_of (record { rows = rows; paths = paths }) c) 0 0) label_now
        ∙ ap (λ (hs : List ℕ). slice_index_or hs 0 0) (st.lists on.other on.there on.apart)
        ∙ spared_first (has_id (take i mids)) (path_of p on.other) (taken_none i mids (slice_index_or (path_of p on.other) 0 0) stays) in
        let listed : has_id mids half ≡ true = has_id_in half mids (item_at half mids i (slice_get-get_or mids i 0 li ∙ ap Some (sym is))) in
        false≢true (sym stays ∙ ap (has_id mids) (sym first ∙ same) ∙ listed)

    module _ (after : Rotation) (edit : IsSmooth (turn now) (turn after) half_limit half) (shrinks : Shrinks now after half)
        (labels : KeepsLabels (is_live after) (edge_of now) (edge_of after)) (list : List (List ℕ))
        (list_is : list ≡ without_half rows (edge_of now half) half paths) where
      list_here : list ≡ without_half rows on.other half paths
      list_here = list_is ∙ ap (λ (c : ℕ). without_half rows c half paths) label_now

      still_live : (a : ℕ) → is_live after a ≡ true → is_live now a ≡ true
      still_live a live = (still_alive (is_live after) (is_live now) half_limit half a shrinks.live (live_half after a shrinks.embedding live)).alive

      left_here : (c : ℕ) → is_some (edge_row rows c) ≡ true → c ≢ e
          → path_of (record { rows = rows; paths = list }) c ≡ spared (has_id (take (suc i) mids)) (path_of p c)
      left_here c there apart = elim (cases_eq c on.other) [
        | inl same ↦
            ap (λ (ls : List (List ℕ)). path_of (record { rows = rows; paths = ls }) c) list_here
            ∙ ap (path_of (record { rows = rows; paths = without_half rows on.other half paths })) same
            ∙ set_here rows paths st.as_many on.other (filter (λ x. not (x == half)) (path_of (record { rows = rows; paths = paths }) on.other)) on.there
            ∙ ap (λ (k : ℕ). filter (λ x. not (x == half)) (path_of (record { rows = rows; paths = paths }) k)) (sym same)
            ∙ ap (filter (λ x. not (x == half))) (st.lists c there apart)
            ∙ spared_more mids i half li is (path_of p c)
        | inr differs ↦
            ap (λ (ls : List (List ℕ)). path_of (record { rows = rows; paths = ls }) c) list_here
            ∙ set_apart rows paths st.as_many on.other c (filter (λ x. not (x == half)) (path_of (record { rows = rows; paths = paths }) on.other))
            on.there there differs
            ∙ st.lists c there apart
            ∙ spared_same mids i half li is (path_of p c) (λ x inside same. differs (sym (label_on c there x inside) ∙ ap (edge_of r) same ∙ on.label))
      ]

      smoothed_next : IsSmoothedTo p e r opened mids (suc i) after list
      smoothed_next = record {
        run = (
          turning_of now,
          st.run,
          subst (λ (h : ℕ). IsStep half_limit (turning_of now) (Smooth h) (turning_of after)) half_is
              (smooth_step now after half st.whole can_smooth.there.alive can_smooth.two_segments edit shrinks),
        );
        whole = shrinks.embedding;
        keeps = λ a live. labels a live ∙ st.keeps a (still_live a live);
        as_many = ap length list_here ∙ length-set paths (position_or_len (λ row. row.id == on.other) rows.edges) (filter (λ x. not (x == half))
            (path_of (record { rows = rows; paths = paths }) on.other)) ∙ st.as_many;
        lists = left_here;
      }

      pub smoothed_more : IsSmoothedTo p e r opened mids (i + 1) after list
      smoothed_more = subst (λ (k : ℕ). IsSmoothedTo p e r opened mids k after list) next smoothed_next where
        next : suc i ≡ i + 1
        next = omega arith

  -- ---- All smoothed, and the list of the edge out

  module _ (now : Rotation) (paths : List (List ℕ)) (st : IsSmoothedTo p e r opened mids (length mids) now paths) (read : List EdgeRow) (at : ℕ)
      (read_is : read ≡ rows.edges) (placed_at : IsPlaceOf read (λ row. row.id) e at) where
    edges_left : remove rows.edges at ≡ filter (λ row. not (row.id == e)) rows.edges
    edges_left = rest_is rows good e rows.edges read (remove rows.edges at) at refl read_is placed_at refl

    inside : at < length rows.edges
    inside = subst (λ (es : List EdgeRow). at < length es) read_is placed_at.within

    inside_paths : at < length paths
    inside_paths = omega (arith, inside, st.as_many)

    abbrev uncrossed : EdgeRow → EdgeRow
    uncrossed = uncrossed_row (edge_at rows e).crossings

    left_edges : (without rows e).edges ≡ map uncrossed (remove rows.edges at)
    left_edges = ap (map uncrossed) (sym edges_left)

    -- where what is at a place now was before
    record WasAt (k : ℕ) : Type 0 where
      place : ℕ
      within : place < length rows.edges
      row : (d : EdgeRow) → get_or (remove rows.edges at) k d ≡ get_or rows.edges place d
      list : slice_index_or (remove paths at) k [] ≡ slice_index_or paths place []

    many_left : length (remove rows.edges at) + 1 ≡ length rows.edges
    many_left = length-remove rows.edges at inside

    was_at : (k : ℕ) → k < length (remove rows.edges at) → WasAt k
    was_at k less = elim (cases_lt k at) [
      | inl before ↦ record {
        place = k;
        within = omega (arith, less, many_left);
        row = λ d. get_or-remove_below rows.edges at d k before inside;
        list = get_or-remove_below paths at [] k before inside_paths;
      }
      | inr behind ↦ record {
        place = k + 1;
        within = omega (arith, less, many_left);
        row = λ d. get_or-remove_above rows.edges at d k behind inside;
        list = get_or-remove_above paths at [] k behind inside_paths;
      }
    ]

    list_left : (k : ℕ) (left : EdgeRow) → slice_get (without rows e).edges k ≡ Some left
        → slice_index_or (remove paths at) k [] ≡ spared (has_id mids) (path_of p left.id)
    list_left k left got =
        let got_here : slice_get (map uncrossed (remove rows.edges at)) k ≡ Some left = ap (λ (es : List EdgeRow). slice_get es k) (sym left_edges) ∙ got in
        let less : k < length (remove rows.edges at) =
        omega (arith, slice_get_within (map uncrossed (remove rows.edges at)) k left got_here, length-map (remove rows.edges at) uncrossed) in
        let was : WasAt k = was_at k less in
        let old : EdgeRow = get_or rows.edges was.place left in
        let old_at : slice_get rows.edges was.place ≡ Some old = slice_get-get_or rows.edges was.place left was.within in
        let is : left ≡ uncrossed old = sym (get_or_from_slice_get (map uncrossed (remove rows.edges at)) k left left got_here)
        ∙ get_or-map uncrossed (remove rows.edges at) k left left less ∙ ap uncrossed (was.row left) in
        let same_id : left.id ≡ old.id = ap (λ (row : EdgeRow). row.id) is in
        let apart : left.id ≢ e = id_apart left (item_at left (without rows e).edges k got) in
        let there : is_some (edge_row rows left.id) ≡ true = ap (λ (c : ℕ). is_some (edge_row rows c)) same_id
        ∙ ap is_some (row_found rows good.paths old (item_at old rows.edges was.place old_at)) in
        let first : was.place ≡ position_or_len (λ row. row.id == left.id) rows.edges =
        (placed_here (λ (row : EdgeRow). row.id) rows.edges left.id (edges_rise rows rows.edges good.paths refl) was.place old old_at (sym same_id)).first in
        was.list ∙ ap (λ (n : ℕ). slice_index_or paths n []) first ∙ st.lists left.id there apart
        ∙ ap (λ (hs : List ℕ). spared (has_id hs) (path_of p left.id)) (take_all (length mids) mids (omega arith)) where
          id_apart : (left : EdgeRow) → IsIn left (without rows e).edges → left.id ≢ e
          id_apart left there = let (old, old_there, apart, is) = without_rows rows e left there in
              λ same. apart (sym (ap (λ (row : EdgeRow). row.id) is) ∙ same)

    all_left : ArePathsLeft p e (has_id mids) (remove paths at)
    all_left = grind (arith, length-remove, inside_paths, many_left, left_edges, length-map, list_left)

    pub deleted : ShowsRows (record { rows = without rows e; paths = remove paths at }) now
    deleted = deleted_shows p good r o.set_out.shows e row known o.set_out.lawful.embedding.connected o.set_out.lawful.genus_zero mids are_mids o.set_out.whole
        (turning_of opened) now o.opened.run all_smoothed st.keeps (remove paths at) all_left where
          all_smoothed : IsRun half_limit (turning_of opened) (smooths_of nu (first_of (mid_at rows e) last)) (turning_of now)
          all_smoothed = subst (λ (k : ℕ). IsRun half_limit (turning_of opened) (smooths_of nu (first_of (mid_at rows e) k)) (turning_of now))
              o.opened.as_many st.run

-- ---- Between the two passes

-- the segments of an edge are out, and the midpoints are all on its list but the last half
are_opened : {rows : Rows} {others : List (List ℕ)} {e : ℕ} {path : List ℕ} {before : Rotation} (now : Rotation) (list mids : List ℕ)
    (o : IsSetOut rows others e path before) → IsOpenTo (record { rows = rows; paths = o.paths }) e before (length path) now list
    → mids ≡ take (length list - 1) list → IsOpened rows others e mids now
are_opened {rows} {others} {e} {path} {before} now list mids o done is = record {
  before = before;
  path = path;
  set_out = o;
  opened = record {
    run = subst (λ (k : ℕ). IsRun half_limit (turning_of before)
        (unchords_of (λ j. half_at (record { rows = rows; paths = o.paths }) (index_of rows (forward e j))) k) (turning_of now)) many_path done.run;
    whole = done.whole;
    keeps = done.keeps;
    as_many = ap length is ∙ length-take (length list - 1) list ∙ (let many = done.as_many in omega arith);
    each = λ i li. ap (λ (hs : List ℕ). slice_index_or hs i 0) is ∙ get_or-take (length list - 1) list i 0 (omega (arith, li, done.as_many))
        ∙ done.mids i (omega (arith, li, many_path)) li;
  };
} where
  many_path : length path ≡ length (edge_at rows e).crossings + 1
  many_path = path_length rows others e path before o

-- ---- As it is read

module _ (rows : Rows) (e : ℕ) (paths : List (List ℕ)) (r : Rotation) (lawful : Lawful rows) (there : is_some (edge_row rows e) ≡ true)
    (shows : ShowsRows (record { rows = rows; paths = paths }) r) (whole : IsEmbedding r)
    (read : List EdgeRow) (at : ℕ) (read_is : read ≡ rows.edges) (placed_at : IsPlaceOf read (λ row. row.id) e at)
    (blank d path : List ℕ) (others : List (List ℕ)) (path_is : path ≡ slice_index_or paths at d) (others_are : others ≡ set paths at blank) where
  place_is : at ≡ position_or_len (λ row. row.id == e) rows.edges
  place_is = placed_at.first ∙ ap (λ (es : List EdgeRow). position_or_len (λ row. row.id == e) es) read_is

  -- the list of the edge is handed out
  pub handed_out : IsSetOut rows others e path r
  handed_out = grind (arith, length-set, place_is, get_or_default, place_inside, set_apart)

  module _ (now : Rotation) (list mids : List ℕ) (done : (e : ℕ) (o : IsSetOut rows others e path r)
      → IsOpenTo (record { rows = rows; paths = o.paths }) e r (length path) now list) (mids_are : mids ≡ take (length list - 1) list) where
    pub opened_here : IsOpened rows (set paths at blank) e mids now
    opened_here = subst (λ (ls : List (List ℕ)). IsOpened rows ls e mids now) others_are
        (are_opened now list mids handed_out (done e handed_out) mids_are)

    module _ (after : Rotation) (lists : List (List ℕ)) (smoothed : (e : ℕ) (o : IsOpened rows (set paths at blank) e mids now)
        → IsSmoothedTo (record { rows = rows; paths = o.set_out.paths }) e o.before now mids (length mids) after lists) where
      pub shows_left : (left : List (List ℕ)) → left ≡ remove lists at → ShowsRows (record { rows = without rows e; paths = left }) after
      shows_left left is = subst (λ (ls : List (List ℕ)). ShowsRows (record { rows = without rows e; paths = ls }) after) (sym is)
          (deleted rows (set paths at blank) e mids now opened_here after lists (smoothed e opened_here) read at read_is placed_at)
