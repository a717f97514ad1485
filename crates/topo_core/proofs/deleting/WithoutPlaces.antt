-- Where the darts of a picture without an edge stood on their edges before.
use Rattle.std.proofs.Common.{◌≡◌, ◌≢◌, ℕ, zero, suc, ◌+◌, ◌<◌, ◌≤◌, Bool, true, false, cond, not, ◌||◌}
use Rattle.std.proofs.Common.{List, [], ◌∷◌, length, get_or, refl, sym, ap, subst, ◌∙◌, arith, inl, inr}
use Rattle.std.specs.Prelude.{◌==◌, ◌⊎◌, Some, is_some, nat_lt, slice_get}
use Rattle.std.proofs.lemmas.Bool.{cases_Bool, eq-eqb, eqb-true, false≢true, or_cases, or_left, or_right}
use Rattle.topo_core.specs.declared.darts.Dart.{Dart}
use Rattle.topo_core.specs.declared.darts.Way.{Way}
use Rattle.topo_core.specs.declared.darts.Way.TheVariants.{Forward, Back}
use Rattle.topo_core.specs.declared.rows.CrossRow.{CrossRow}
use Rattle.topo_core.specs.declared.rows.EdgeRow.{EdgeRow}
use Rattle.topo_core.specs.declared.rows.Rows.{Rows}
use Rattle.topo_core.specs.Changes.{without}
use Rattle.topo_core.specs.Darts.{dart_twin, reversed}
use Rattle.topo_core.specs.Deletions.{crossings_between, gone_on, IsCrossingOf, RunsOver}
use Rattle.topo_core.specs.Insertions.{lifted}
use Rattle.topo_core.specs.Items.{has_id, IsIn, occurrences}
use Rattle.topo_core.specs.Lawful.{IsWellFormed}
use Rattle.topo_core.specs.Picture.{ahead, behind, cross_row, darts, edge_at, edge_row, end_dart, place_on, segment_count}
use Rattle.topo_core.specs.Pictures.{back, forward}
use Rattle.topo_core.specs.Systems.{has_dart}
use Rattle.topo_core.proofs.numbering.Counting.{le_of_test, lt_of_test, one}
use Rattle.topo_core.proofs.deleting.GonePaths.{first_inside, first_not_gone, firsts_apart, gone_from, gone_once, gone_parts, gone_segment}
use Rattle.topo_core.proofs.deleting.GonePaths.{item_in, item_place, last_inside, last_not_gone, lasts_apart, left_of, places_apart, runs_over}
use Rattle.topo_core.proofs.numbering.Members.{found}
use Rattle.topo_core.proofs.inserting.ShownPlaces.{at_its_place, lifted_ahead, lifted_back, lifted_behind, lifted_edge, lifted_forward, on_path_of, path_once}
use Rattle.topo_core.proofs.numbering.Standing.{good_crossing, is_dart_of_rows, listed_test, of_rows_is_dart}
use Rattle.topo_core.proofs.systems.SystemDarts.{crossing_there, edge_at_row, eqb_self, row_id, row_in, some_of}
use Rattle.topo_core.proofs.inserting.Weaving.{in_filter}
use Rattle.topo_core.proofs.deleting.WithoutForm.{without_well_formed}
use Rattle.topo_core.proofs.deleting.WithoutRows.{filter_in, filter_passes, gone, has_id_in, in_has_id}
use Rattle.topo_core.proofs.deleting.WithoutRows.{is_uncrossed, without_edge, without_edge_there, without_known}
use Rattle.topo_core.proofs.inserting.WovenPaths.{counted_in, first_part, first_part_is, last_part, last_part_is}

-- ---- Darts of good rows

got : (xs : List ℕ) (i n : ℕ) → slice_get xs i ≡ Some n → (i < length xs) × (get_or xs i 0 ≡ n)
got [] i n e = cc
got (x ∷ xs) zero n e = let same : x ≡ n = cc in (omega arith, same)
got (x ∷ xs) (suc i) n e = let rest = got xs i n e in let less = rest.0 in (omega arith, rest.1)

module _ (rows : Rows) (good : IsWellFormed rows) where
  -- a dart is of an edge that is there
  pub edge_of_dart : (d : Dart) → has_dart (darts rows) d ≡ true → is_some (edge_row rows d.edge) ≡ true
  edge_of_dart d h = ap is_some (of_rows_is_dart rows d (sym (listed_test rows good.paths d) ∙ h)).1

  -- and of one of its segments
  pub segment_of_dart : (d : Dart) → has_dart (darts rows) d ≡ true → d.seg ≤ length (edge_at rows d.edge).crossings
  segment_of_dart d h = grind (arith, of_rows_is_dart, listed_test, edge_at_row)

  -- each segment of an edge that is there has its darts
  pub dart_of_segment : (c s : ℕ) (w : Way) → is_some (edge_row rows c) ≡ true → s ≤ length (edge_at rows c).crossings
      → has_dart (darts rows) (record { edge = c; seg = s; way = w }) ≡ true
  dart_of_segment c s w known h = grind (arith, some_of, edge_at_row, listed_test, is_dart_of_rows)

  -- no crossing stands twice on the path of an edge that is there
  pub edge_once : (c : ℕ) → is_some (edge_row rows c) ≡ true → (y : ℕ) → IsIn y (edge_at rows c).crossings → occurrences y (edge_at rows c).crossings ≤ 1
  edge_once c known =
      let pick = some_of (edge_row rows c) known in
      subst (λ (row : EdgeRow). (y : ℕ) → IsIn y row.crossings → occurrences y row.crossings ≤ 1) (sym (edge_at_row rows c pick.0 pick.1))
      (path_once rows good c pick.0 pick.1)

  -- a crossing on a path is there
  pub crossing_on : (c n : ℕ) → is_some (edge_row rows c) ≡ true → IsIn n (edge_at rows c).crossings → (x : CrossRow) × IsIn x rows.crossings × (x.id ≡ n)
  crossing_on c n known h =
      let row = some_of (edge_row rows c) known in
      let on_row : IsIn n row.0.crossings = subst (λ (row : EdgeRow). IsIn n row.crossings) (edge_at_row rows c row.0 row.1) h in
      let pick = some_of (cross_row rows n) (crossing_there rows good.paths row.0 (row_in rows c row.0 row.1) n on_row) in
      let at = found (λ x. x.id == n) pick.0 rows.crossings pick.1 in (pick.0, at.0, eqb-true pick.0.id n at.1)

  -- and of the edge
  pub is_one_of : (c : ℕ) (x : CrossRow) → is_some (edge_row rows c) ≡ true → IsIn x rows.crossings → IsIn x.id (edge_at rows c).crossings → (c ≡ x.crossed)
      ⊎ (c ≡ x.newcomer)
  is_one_of c x known h on_path =
      let row = some_of (edge_row rows c) known in
      let on_row : IsIn x.id row.0.crossings = subst (λ (row : EdgeRow). IsIn x.id row.crossings) (edge_at_row rows c row.0 row.1) on_path in
      let counted = (good_crossing rows good.crossings x h).counted row.0 (row_in rows c row.0 row.1) in
      grind (arith, counted_in, row_id, cases_Bool, or_cases, eqb-true, one)

-- ---- In a picture without an edge

module _ (rows : Rows) (e : ℕ) (good : IsWellFormed rows) (known : is_some (edge_row rows e) ≡ true) where
  abbrev after : Rows
  after = without rows e

  abbrev pub now : IsWellFormed after
  now = without_well_formed rows e good known

  -- an edge that is left: its path before and now
  pub record LeftEdge (c : ℕ) : Type 0 where
    pub apart : c ≢ e
    pub before : is_some (edge_row rows c) ≡ true
    pub path : (edge_at after c).crossings ≡ left_of (gone rows e) (edge_at rows c).crossings
    pub begins : (edge_at after c).a ≡ (edge_at rows c).a

  pub left_edge : (c : ℕ) → is_some (edge_row after c) ≡ true → LeftEdge c
  left_edge c there =
      let pick = some_of (edge_row after c) there in
      let old = without_known rows e c pick.0 pick.1 in
      grind (arith, without_edge, edge_at_row, left_of, gone)

  -- what stands on its path now stood on it before and is not gone
  pub on_path_before : (c n : ℕ) → is_some (edge_row after c) ≡ true → IsIn n (edge_at after c).crossings → IsIn n (edge_at rows c).crossings
      × (has_id (gone rows e) n ≡ true → ⊥)
  on_path_before c n there h =
      let inside = subst (IsIn n) (left_edge c there).path h in grind (arith, in_filter, is_uncrossed, false≢true, filter_passes)

  -- ---- The ends of edges

  -- the dart of an end of an edge that is left is lifted
  pub left_end : (w c : ℕ) → is_some (edge_row after c) ≡ true → end_dart rows w c ≡ lifted after rows (end_dart after w c)
  left_end w c there =
      ap (λ a. cond {A = Dart} (a == w) (forward c 0) (back c (length (edge_at rows c).crossings))) (sym (left_edge c there).begins)
      ∙ by_test ((edge_at after c).a == w) where
        by_test : (t : Bool) → cond {A = Dart} t (forward c 0) (back c (length (edge_at rows c).crossings))
            ≡ lifted after rows (cond {A = Dart} t (forward c 0) (back c (length (edge_at after c).crossings)))
        by_test true = refl
        by_test false = sym (ap (λ (t : Bool). cond {A = Dart} t (back c (length (edge_at rows c).crossings))
            (behind rows c (get_or (edge_at after c).crossings (length (edge_at after c).crossings) 0))) (eqb_self (length (edge_at after c).crossings)))

  -- ---- Segments

  -- a segment runs over the crossings that are gone from it
  pub segment_runs : (c s : ℕ) → is_some (edge_row after c) ≡ true → s ≤ length (edge_at after c).crossings
      → RunsOver rows c (lifted after rows (forward c s)) (crossings_between rows e c s) (lifted after rows (back c s))
  segment_runs c s there inside =
      let left = left_edge c there in
      let whole = (edge_at rows c).crossings in
      let path = left_of (gone rows e) whole in
      let new = gone_on (gone rows e) whole s in
      let s_in : s ≤ length path = subst (λ (list : List ℕ). s ≤ length list) left.path inside in
      let parts = gone_parts (gone rows e) whole s s_in in
      let once = edge_once rows good c left.before in
      let leads : lifted after rows (forward c s) ≡ forward c (length parts.front) =
      lifted_forward after rows c s ∙ ap (λ list. forward c (first_part list whole s)) left.path
      ∙ ap (forward c) (first_part_is new s path whole s_in parts once) in
      let comes : lifted after rows (back c s) ≡ back c (length parts.front + length new) =
      lifted_back after rows c s ∙ ap (λ list. back c (last_part list whole s)) left.path ∙ ap (back c) (last_part_is new s path whole s_in parts once) in
      grind (arith, runs_over)

  pub dart_runs : (d : Dart) → has_dart (darts after) d ≡ true → d.way ≡ Forward
      → RunsOver rows d.edge (lifted after rows d) (crossings_between rows e d.edge d.seg) (lifted after rows (dart_twin d))
  dart_runs d h leads = by_way d.way leads where
    main : RunsOver rows d.edge (lifted after rows (forward d.edge d.seg)) (crossings_between rows e d.edge d.seg) (lifted after rows (back d.edge d.seg))
    main = segment_runs d.edge d.seg (edge_of_dart after now d h) (segment_of_dart after now d h)

    by_way : (w : Way) → w ≡ Forward → RunsOver rows d.edge (lifted after rows (record { edge = d.edge; seg = d.seg; way = w }))
        (crossings_between rows e d.edge d.seg) (lifted after rows (record { edge = d.edge; seg = d.seg; way = reversed w }))
    by_way Forward k = main
    by_way Back k = cc

  -- ---- The crossings of the edge

  -- a crossing on both paths is of both edges
  pub crossing_of : (c n : ℕ) → c ≢ e → is_some (edge_row rows c) ≡ true → IsIn n (edge_at rows c).crossings → has_id (gone rows e) n ≡ true → (x : CrossRow)
      × (x.id ≡ n) × IsCrossingOf rows e c x
  crossing_of c n apart there h is_gone =
      let pick = crossing_on rows good c n there h in
      let x = pick.0 in
      let of_c = is_one_of rows good c x there pick.1 (subst (λ m. IsIn m (edge_at rows c).crossings) (sym pick.2) h) in
      let of_e = is_one_of rows good e x known pick.1 (subst (λ m. IsIn m (gone rows e)) (sym pick.2) (in_has_id n (gone rows e) is_gone)) in grind arith

  -- what is known of the other edge at a crossing
  pub record OtherEdge (c n : ℕ) : Type 0 where
    pub apart : c ≢ e
    pub before : is_some (edge_row rows c) ≡ true
    pub left : is_some (edge_row after c) ≡ true
    pub on_path : IsIn n (edge_at rows c).crossings
    pub is_gone : has_id (gone rows e) n ≡ true

  pub other_edge : (c : ℕ) (x : CrossRow) → IsCrossingOf rows e c x → OtherEdge c x.id
  other_edge c x is =
      let facts = good_crossing rows good.crossings x is.there in
      let differ : x.crossed ≢ x.newcomer = λ same. false≢true (sym facts.apart ∙ eq-eqb x.crossed x.newcomer same) in
      let on = λ (f : ℕ) (there : is_some (edge_row rows f) ≡ true)
      (of_it : (f == x.crossed || f == x.newcomer) ≡ true). on_path_of rows good x is.there f there of_it in
      grind (arith, without_edge_there, or_right, eq-eqb, has_id_in, gone, or_left)

  -- a crossing between is of both edges
  pub between_of : (d : Dart) (i : ℕ) → has_dart (darts after) d ≡ true → IsIn i (crossings_between rows e d.edge d.seg) → (x : CrossRow) × (x.id ≡ i)
      × IsCrossingOf rows e d.edge x
  between_of d i h k =
      let left = left_edge d.edge (edge_of_dart after now d h) in
      let from = gone_from (gone rows e) (edge_at rows d.edge).crossings d.seg i k in
      crossing_of d.edge i left.apart left.before from.0 from.1

  -- each crossing of the edge is gone from a segment of the other one
  pub on_a_segment : (c : ℕ) (x : CrossRow) → IsCrossingOf rows e c x → (s : ℕ) × (s < segment_count (edge_at after c))
      × IsIn x.id (crossings_between rows e c s)
  on_a_segment c x is =
      let other = other_edge c x is in
      grind (arith, gone_segment, gone, left_edge)

  -- and of one only
  pub on_one_segment : (c s t i : ℕ) → is_some (edge_row after c) ≡ true → IsIn i (crossings_between rows e c s) → IsIn i (crossings_between rows e c t) → s ≡ t
  on_one_segment c s t i there h k = grind (arith, edge_once, left_edge, there, gone_from, gone, gone_once)

  -- ---- The darts at the crossings of the edge

  pub ahead_there : (c : ℕ) (x : CrossRow) → IsCrossingOf rows e c x → has_dart (darts rows) (ahead rows c x.id) ≡ true
  ahead_there c x is =
      let other = other_edge c x is in
      let less = (at_its_place x.id (edge_at rows c).crossings other.on_path).0 in
      dart_of_segment rows good c (place_on rows c x.id + 1) Forward other.before (omega arith)

  pub behind_there : (c : ℕ) (x : CrossRow) → IsCrossingOf rows e c x → has_dart (darts rows) (behind rows c x.id) ≡ true
  behind_there c x is =
      let other = other_edge c x is in
      let less = (at_its_place x.id (edge_at rows c).crossings other.on_path).0 in
      dart_of_segment rows good c (place_on rows c x.id) Back other.before (omega arith)

  -- darts ahead of different crossings are different
  pub aheads_apart : (b c : ℕ) (x y : CrossRow) → IsCrossingOf rows e b x → IsCrossingOf rows e c y → ahead rows b x.id ≡ ahead rows c y.id → x.id ≡ y.id
  aheads_apart b c x y is also same =
      let edges : b ≡ c = ap (λ (d : Dart). d.edge) same in
      let segments : place_on rows b x.id + 1 ≡ place_on rows c y.id + 1 = ap (λ (d : Dart). d.seg) same in
      let there : IsIn y.id (edge_at rows b).crossings = subst (λ f. IsIn y.id (edge_at rows f).crossings) (sym edges) (other_edge c y also).on_path in
      let moved : place_on rows b y.id ≡ place_on rows c y.id = ap (λ f. place_on rows f y.id) edges in
      places_apart (edge_at rows b).crossings x.id y.id (other_edge b x is).on_path there (omega arith)

  pub behinds_apart : (b c : ℕ) (x y : CrossRow) → IsCrossingOf rows e b x → IsCrossingOf rows e c y → behind rows b x.id ≡ behind rows c y.id → x.id ≡ y.id
  behinds_apart b c x y is also same =
      let edges : b ≡ c = ap (λ (d : Dart). d.edge) same in
      let segments : place_on rows b x.id ≡ place_on rows c y.id = ap (λ (d : Dart). d.seg) same in
      let there : IsIn y.id (edge_at rows b).crossings = subst (λ f. IsIn y.id (edge_at rows f).crossings) (sym edges) (other_edge c y also).on_path in
      places_apart (edge_at rows b).crossings x.id y.id (other_edge b x is).on_path there (segments ∙ sym (ap (λ f. place_on rows f y.id) edges))

  -- ---- Lifted darts

  abbrev lift : Dart → Dart
  lift = lifted after rows

  -- darts of one edge that are lifted to one are the same
  segments_apart : (c s t : ℕ) (w : Way) → is_some (edge_row after c) ≡ true → s ≤ length (edge_at after c).crossings → t ≤ length (edge_at after c).crossings
      → lift (record { edge = c; seg = s; way = w }) ≡ lift (record { edge = c; seg = t; way = w }) → s ≡ t
  segments_apart c s t w there s_in t_in = by_way w where
    path : List ℕ
    path = (edge_at after c).crossings

    once : (y : ℕ) → IsIn y (edge_at after c).crossings → occurrences y (edge_at after c).crossings ≤ 1
    once = edge_once after now c there

    old : (y : ℕ) → IsIn y (edge_at after c).crossings → IsIn y (edge_at rows c).crossings
    old y h = (on_path_before c y there h).0

    by_way : (w : Way) → lift (record { edge = c; seg = s; way = w }) ≡ lift (record { edge = c; seg = t; way = w }) → s ≡ t
    by_way Forward same = firsts_apart (edge_at after c).crossings (edge_at rows c).crossings once old s t s_in t_in
        (ap (λ (d : Dart). d.seg) (sym (lifted_forward after rows c s) ∙ same ∙ lifted_forward after rows c t))
    by_way Back same = lasts_apart (edge_at after c).crossings (edge_at rows c).crossings once old s t s_in t_in
        (ap (λ (d : Dart). d.seg) (sym (lifted_back after rows c s) ∙ same ∙ lifted_back after rows c t))

  lifted_way : (d : Dart) → (lift d).way ≡ d.way
  lifted_way d = by_way d.way where
    by_way : (w : Way) → (lift (record { edge = d.edge; seg = d.seg; way = w })).way ≡ w
    by_way Forward = ap (λ (y : Dart). y.way) (lifted_forward after rows d.edge d.seg)
    by_way Back = ap (λ (y : Dart). y.way) (lifted_back after rows d.edge d.seg)

  pub lifted_apart : (c d : Dart) → has_dart (darts after) c ≡ true → has_dart (darts after) d ≡ true → lift c ≡ lift d → c ≡ d
  lifted_apart c d h k same =
      let edges : c.edge ≡ d.edge = sym (lifted_edge after rows c) ∙ ap (λ (y : Dart). y.edge) same ∙ lifted_edge after rows d in
      let ways : c.way ≡ d.way = sym (lifted_way c) ∙ ap (λ (y : Dart). y.way) same ∙ lifted_way d in
      let moved : c ≡ record { edge = d.edge; seg = c.seg; way = d.way } = λ i. record { edge = edges i; seg = c.seg; way = ways i } in
      let inside : c.seg ≤ length (edge_at after d.edge).crossings =
      subst (λ f. c.seg ≤ length (edge_at after f).crossings) edges (segment_of_dart after now c h) in
      let segments = segments_apart d.edge c.seg d.seg d.way (edge_of_dart after now d k) inside (segment_of_dart after now d k) (sym (ap lift moved) ∙ same) in
      moved ∙ ap (λ s. record { edge = d.edge; seg = s; way = d.way }) segments

  -- a lifted dart is a dart of the picture before
  pub lifted_there : (d : Dart) → has_dart (darts after) d ≡ true → has_dart (darts rows) (lift d) ≡ true
  lifted_there d h = by_way d.way where
    there : is_some (edge_row after d.edge) ≡ true
    there = edge_of_dart after now d h

    inside : d.seg ≤ length (edge_at after d.edge).crossings
    inside = segment_of_dart after now d h

    before : is_some (edge_row rows d.edge) ≡ true
    before = (left_edge d.edge there).before

    once : (y : ℕ) → IsIn y (edge_at after d.edge).crossings → occurrences y (edge_at after d.edge).crossings ≤ 1
    once = edge_once after now d.edge there

    old : (y : ℕ) → IsIn y (edge_at after d.edge).crossings → IsIn y (edge_at rows d.edge).crossings
    old y k = (on_path_before d.edge y there k).0

    by_way : (w : Way) → has_dart (darts rows) (lift (record { edge = d.edge; seg = d.seg; way = w })) ≡ true
    by_way Forward = subst (λ y. has_dart (darts rows) y ≡ true) (sym (lifted_forward after rows d.edge d.seg))
        (dart_of_segment rows good d.edge (first_part (edge_at after d.edge).crossings (edge_at rows d.edge).crossings d.seg) Forward before
        (first_inside (edge_at after d.edge).crossings (edge_at rows d.edge).crossings once old d.seg inside))
    by_way Back = subst (λ y. has_dart (darts rows) y ≡ true) (sym (lifted_back after rows d.edge d.seg))
        (dart_of_segment rows good d.edge (last_part (edge_at after d.edge).crossings (edge_at rows d.edge).crossings d.seg) Back before
        (last_inside (edge_at after d.edge).crossings (edge_at rows d.edge).crossings once old d.seg inside))

  -- no lifted dart starts at a crossing of the edge
  module _ (d : Dart) (x : CrossRow) (is : IsCrossingOf rows e d.edge x) (h : has_dart (darts after) d ≡ true) where
    on_edge : IsIn x.id (edge_at rows d.edge).crossings
    on_edge = (other_edge d.edge x is).on_path

    not_left : IsIn x.id (edge_at after d.edge).crossings → ⊥
    not_left k = (on_path_before d.edge x.id (edge_of_dart after now d h) k).1 (other_edge d.edge x is).is_gone

    once_left : (y : ℕ) → IsIn y (edge_at after d.edge).crossings → occurrences y (edge_at after d.edge).crossings ≤ 1
    once_left = edge_once after now d.edge (edge_of_dart after now d h)

    left_old : (y : ℕ) → IsIn y (edge_at after d.edge).crossings → IsIn y (edge_at rows d.edge).crossings
    left_old y k = (on_path_before d.edge y (edge_of_dart after now d h) k).0

    segment_in : d.seg ≤ length (edge_at after d.edge).crossings
    segment_in = segment_of_dart after now d h

    not_ahead : (w : Way) → lift (record { edge = d.edge; seg = d.seg; way = w }) ≡ ahead rows d.edge x.id → ⊥
    not_ahead Forward same =
        first_not_gone (edge_at after d.edge).crossings (edge_at rows d.edge).crossings once_left left_old x.id on_edge not_left d.seg segment_in
        (ap (λ (y : Dart). y.seg) (sym (lifted_forward after rows d.edge d.seg) ∙ same))
    not_ahead Back same = let ways : Back ≡ Forward = ap (λ (y : Dart). y.way) (sym (lifted_back after rows d.edge d.seg) ∙ same) in cc

    not_behind : (w : Way) → lift (record { edge = d.edge; seg = d.seg; way = w }) ≡ behind rows d.edge x.id → ⊥
    not_behind Back same =
        last_not_gone (edge_at after d.edge).crossings (edge_at rows d.edge).crossings once_left left_old x.id on_edge not_left d.seg segment_in
        (ap (λ (y : Dart). y.seg) (sym (lifted_back after rows d.edge d.seg) ∙ same))
    not_behind Forward same = let ways : Forward ≡ Back = ap (λ (y : Dart). y.way) (sym (lifted_forward after rows d.edge d.seg) ∙ same) in cc

    not_at : (lift d ≢ ahead rows d.edge x.id) × (lift d ≢ behind rows d.edge x.id)
    not_at = (not_ahead d.way, not_behind d.way)

  pub gone_apart : (c : ℕ) (x : CrossRow) (d : Dart) → IsCrossingOf rows e c x → has_dart (darts after) d ≡ true → (lift d ≢ ahead rows c x.id)
      × (lift d ≢ behind rows c x.id)
  gone_apart c x d is h = grind (arith, lifted_edge, not_at)

  -- ---- The darts of the edge

  pub edge_dart : (i : ℕ) (way : Way) → i ≤ length (edge_at rows e).crossings → has_dart (darts rows) (record { edge = e; seg = i; way = way }) ≡ true
  edge_dart i way h = dart_of_segment rows good e i way known h

  -- its crossings, by their places
  pub edge_place : (i n : ℕ) → slice_get (edge_at rows e).crossings i ≡ Some n → place_on rows e n ≡ i
  edge_place i n at = grind (arith, got, item_place, edge_once)

  pub edge_meets : (i n : ℕ) → slice_get (edge_at rows e).crossings i ≡ Some n → (c : ℕ) × (x : CrossRow) × (x.id ≡ n) × IsCrossingOf rows e c x
  edge_meets i n at =
      let is = got (edge_at rows e).crossings i n at in
      let on_path : IsIn n (edge_at rows e).crossings = subst (λ y. IsIn y (edge_at rows e).crossings) is.1 (item_in (edge_at rows e).crossings i is.0) in
      let pick = crossing_on rows good e n known on_path in
      elim (is_one_of rows good e pick.0 known pick.1 (subst (λ m. IsIn m (edge_at rows e).crossings) (sym pick.2) on_path)) [
        | inl crossed ↦ (pick.0.newcomer, pick.0, pick.2, record { there = pick.1; edges = inl (sym crossed, refl) })
        | inr new ↦ (pick.0.crossed, pick.0, pick.2, record { there = pick.1; edges = inr (refl, sym new) })
      ]

  -- ---- There are no others

  abbrev pub IsOneOf : Dart → Type 0
  IsOneOf d = ((d.edge ≡ e) × (d.seg ≤ length (edge_at rows e).crossings))
      ⊎ (((c : Dart) × (has_dart (darts after) c ≡ true) × (d ≡ lift c))
      ⊎ ((c : ℕ) × (x : CrossRow) × IsCrossingOf rows e c x × ((d ≡ ahead rows c x.id) ⊎ (d ≡ behind rows c x.id))))

  module _ (c : ℕ) (apart : c ≢ e) (there : is_some (edge_row rows c) ≡ true) where
    abbrev whole : List ℕ
    whole = (edge_at rows c).crossings

    left : is_some (edge_row after c) ≡ true
    left = without_edge_there rows e c apart there

    on_left : (n : ℕ) → IsIn n whole → has_id (gone rows e) n ≡ false → IsIn n (edge_at after c).crossings
    on_left n h stays = subst (IsIn n) (sym (left_edge c left).path) (filter_in (is_uncrossed rows e) n whole (ap not stays) h)

    at_place : (i : ℕ) → i < length whole → place_on rows c (get_or whole i 0) ≡ i
    at_place i h = item_place whole i (edge_once rows good c there) h

    -- the dart that goes on from a crossing
    ahead_is : (n : ℕ) → IsIn n whole → IsOneOf (ahead rows c n)
    ahead_is n h = elim (cases_Bool (has_id (gone rows e) n)) [
      | inl is_gone ↦ let x = crossing_of c n apart there h is_gone in inr (inr (c, x.0, x.2, inl (ap (ahead rows c) (sym x.1))))
      | inr stays ↦
          let on = on_left n h stays in
          let less = (at_its_place n (edge_at after c).crossings on).0 in
          inr (inl (ahead after c n, dart_of_segment after now c (place_on after c n + 1) Forward left (omega arith), lifted_ahead after rows c n on))
    ]

    behind_is : (n : ℕ) → IsIn n whole → IsOneOf (behind rows c n)
    behind_is n h = elim (cases_Bool (has_id (gone rows e) n)) [
      | inl is_gone ↦ let x = crossing_of c n apart there h is_gone in inr (inr (c, x.0, x.2, inr (ap (behind rows c) (sym x.1))))
      | inr stays ↦
          let on = on_left n h stays in
          let less = (at_its_place n (edge_at after c).crossings on).0 in
          inr (inl (behind after c n, dart_of_segment after now c (place_on after c n) Back left (omega arith), lifted_behind after rows c n on))
    ]

    forward_is : (s : ℕ) → s ≤ length whole → IsOneOf (forward c s)
    forward_is zero h = inr (inl (forward c 0, dart_of_segment after now c 0 Forward left (omega arith), refl))
    forward_is (suc i) h =
        let next : place_on rows c (get_or whole i 0) + 1 ≡ suc i = let at = at_place i (omega arith) in omega arith in
        subst (λ s. IsOneOf (forward c s)) next (ahead_is (get_or whole i 0) (item_in whole i (omega arith)))

    back_is : (s : ℕ) → s ≤ length whole → IsOneOf (back c s)
    back_is s h = elim (cases_Bool (nat_lt s (length whole))) [
      | inl inside ↦
          let less = lt_of_test s (length whole) inside in
          subst (λ t. IsOneOf (back c t)) (at_place s less) (behind_is (get_or whole s 0) (item_in whole s less))
      | inr outside ↦
          let high = le_of_test s (length whole) outside in
          let last : length whole ≡ s = omega arith in
          let lifted_last : back c (length whole) ≡ lift (back c (length (edge_at after c).crossings)) =
          sym (ap (λ (t : Bool). cond {A = Dart} t (back c (length whole))
          (behind rows c (get_or (edge_at after c).crossings (length (edge_at after c).crossings) 0))) (eqb_self (length (edge_at after c).crossings))) in
          subst (λ t. IsOneOf (back c t)) last
          (inr (inl (
            back c (length (edge_at after c).crossings),
            dart_of_segment after now c (length (edge_at after c).crossings) Back left (omega arith),
            lifted_last,
          )))
    ]

    segment_is : (s : ℕ) (w : Way) → s ≤ length whole → IsOneOf (record { edge = c; seg = s; way = w })
    segment_is s Forward h = forward_is s h
    segment_is s Back h = back_is s h

  pub one_of : (d : Dart) → has_dart (darts rows) d ≡ true → IsOneOf d
  one_of d h = elim (cases_Bool (d.edge == e)) [
    | inl k ↦ let same = eqb-true d.edge e k in inl (same, subst (λ c. d.seg ≤ length (edge_at rows c).crossings) same (segment_of_dart rows good d h))
    | inr k ↦ segment_is d.edge (λ same. false≢true (sym k ∙ eq-eqb d.edge e same)) (edge_of_dart rows good d h) d.seg d.way (segment_of_dart rows good d h)
  ]
