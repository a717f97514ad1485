-- Where the darts of a picture stand on their edges once it shows a new edge along a route.
use Rattle.std.proofs.Common.{◌≡◌, ℕ, suc, ◌+◌, ◌-◌, ◌<◌, ◌≤◌, Bool, true, false, cond, ◌&&◌, ◌||◌}
use Rattle.std.proofs.Common.{List, [], ◌∷◌, length, eqb, refl, sym, ap, subst, ◌∙◌, arith, inl, inr}
use Rattle.std.specs.Prelude.{◌==◌, ◌⊎◌, Some, filter, is_some, map, slice_index_or}
use Rattle.std.specs.List.{AllByRecursion, enumerate_from}
use Rattle.std.proofs.lemmas.List.{length-map}
use Rattle.std.proofs.lemmas.List.FromFn.{length-enumerate_from}
use Rattle.std.proofs.lemmas.List.Sums.{sum_by-cons}
use Rattle.std.proofs.lemmas.Bool.{and_from, cases_Bool, eq-eqb, eqb-true, false≢true}
use Rattle.topo_core.specs.declared.darts.Dart.{Dart}
use Rattle.topo_core.specs.declared.darts.Way.{Way}
use Rattle.topo_core.specs.declared.rows.CrossRow.{CrossRow}
use Rattle.topo_core.specs.declared.rows.EdgeRow.{EdgeRow}
use Rattle.topo_core.specs.declared.rows.Rows.{Rows}
use Rattle.topo_core.specs.declared.routes.Route.{Route}
use Rattle.topo_core.specs.Changes.{crossed_row, new_on, numbered, shown}
use Rattle.topo_core.specs.Darts.{dart_twin}
use Rattle.topo_core.specs.Insertions.{backward, CrossesOnce, lifted, onward, same_segment}
use Rattle.topo_core.specs.Items.{IsIn, occurrences}
use Rattle.topo_core.specs.Lawful.{IsWellFormed}
use Rattle.topo_core.specs.Picture.{ahead, behind, cross_row, darts, edge_at, edge_row, end_dart, place_on}
use Rattle.topo_core.specs.Pictures.{back, forward}
use Rattle.topo_core.specs.Systems.{has_dart}
use Rattle.topo_core.proofs.numbering.Counting.{at_most_one, eqb_less, eqb_more, eqb_symm, one, path_place_here, path_place_later}
use Rattle.topo_core.proofs.numbering.Members.{found}
use Rattle.topo_core.proofs.inserting.ShownForm.{each_of}
use Rattle.topo_core.proofs.inserting.ShownRows.{newcomer_row, number_from, numbered_in, shown_new_edge, shown_new_row, shown_old_edge, shown_old_row}
use Rattle.topo_core.proofs.numbering.Standing.{good_crossing, is_dart_of_rows, listed_test, of_rows_is_dart}
use Rattle.topo_core.proofs.systems.SystemDarts.{crossing_there, edge_at_row, eqb_self, row_id, row_in, some_of}
use Rattle.topo_core.proofs.inserting.WovenPaths.{first_part, first_part_is, IsParted, last_part, last_part_is, place_of, place_of_new, woven_parts}

-- ---- The new crossings on one segment

same_segment_symm : (c d : Dart) → same_segment c d ≡ same_segment d c
same_segment_symm c d = ap (λ t. t && c.seg == d.seg) (eqb_symm c.edge d.edge) ∙ ap (λ t. d.edge == c.edge && t) (eqb_symm c.seg d.seg)

same_segment_self : (d : Dart) → same_segment d d ≡ true
same_segment_self d = and_from (d.edge == d.edge) (d.seg == d.seg) (eqb_self d.edge) (eqb_self d.seg)

-- the ids of the numbered darts on the segment of d
abbrev pub ids_on : Dart → List (ℕ × Dart) → List ℕ
ids_on d xs = map (λ x. x.0) (filter (λ x. same_segment x.1 d) xs)

pub skipped : (d : Dart) (x : ℕ × Dart) (xs : List (ℕ × Dart)) → same_segment x.1 d ≡ false → ids_on d (x ∷ xs) ≡ ids_on d xs
skipped d x xs e = ap (λ (t : Bool). map {A = ℕ × Dart} (λ x. x.0) (cond t (x ∷ filter (λ x. same_segment x.1 d) xs) (filter (λ x. same_segment x.1 d) xs))) e

pub taken : (d : Dart) (x : ℕ × Dart) (xs : List (ℕ × Dart)) → same_segment x.1 d ≡ true → ids_on d (x ∷ xs) ≡ x.0 ∷ ids_on d xs
taken d x xs e = ap (λ (t : Bool). map {A = ℕ × Dart} (λ x. x.0) (cond t (x ∷ filter (λ x. same_segment x.1 d) xs) (filter (λ x. same_segment x.1 d) xs))) e

none_on : (d : Dart) (n : ℕ) (ds : List Dart) → ((c : Dart) → IsIn c ds → same_segment c d ≡ false) → ids_on d (enumerate_from n ds) ≡ []
none_on d n [] none = refl
none_on d n (c ∷ ds) none = skipped d (n, c) (enumerate_from (n + 1) ds) (none c (inl refl)) ∙ none_on d (n + 1) ds (λ b h. none b (inr h))

one_on : (n x : ℕ) (d : Dart) (ds : List Dart) → CrossesOnce ds → IsIn (x, d) (enumerate_from n ds) → ids_on d (enumerate_from n ds) ≡ x ∷ []
one_on n x d [] once h = absurd h
one_on n x d (c ∷ ds) once (inl e) = grind (arith, taken, same_segment_self, none_on, same_segment_symm, each_of)
one_on n x d (c ∷ ds) once (inr h) =
    skipped d (n, c) (enumerate_from (n + 1) ds) (each_of (λ b. same_segment c b ≡ false) ds once.0 d (numbered_in (n + 1) x d ds h))
    ∙ one_on (n + 1) x d ds once.1 h

-- the place of a new crossing on the path of the new edge
pub place_of_number : (n x : ℕ) (d : Dart) (ds : List Dart) → IsIn (x, d) (enumerate_from n ds) → place_of (map (λ x. x.0) (enumerate_from n ds)) x ≡ x - n
place_of_number n x d [] h = absurd h
place_of_number n x d (c ∷ ds) (inl e) = grind (arith, path_place_here, eq-eqb)
place_of_number n x d (c ∷ ds) (inr h) =
    let low = number_from (n + 1) x d ds h in
    let later = path_place_later x n (map (λ x. x.0) (enumerate_from (n + 1) ds)) (eqb_less n x (omega arith)) in
    let rest = place_of_number (n + 1) x d ds h in omega arith

-- ---- Crossings on the paths of good rows

-- what is counted stands in the list
pub in_counted : (x : ℕ) (xs : List ℕ) → 1 ≤ occurrences x xs → IsIn x xs
in_counted x [] h = absurd (omega arith)
in_counted x (y ∷ xs) h =
    let step = sum_by-cons (λ y. one (y == x)) y xs in
    elim (cases_Bool (y == x)) [
      | inl e ↦ inl (sym (eqb-true y x e))
      | inr e ↦ let here : one (y == x) ≡ 0 = ap one e in inr (in_counted x xs (omega arith))
    ]

-- what stands on a path stands at its place
pub at_its_place : (x : ℕ) (path : List ℕ) → IsIn x path → (place_of path x < length path) × (slice_index_or path (place_of path x) 0 ≡ x)
at_its_place x [] h = absurd h
at_its_place x (y ∷ path) h = elim (cases_Bool (y == x)) [
  | inl e ↦ let here = path_place_here x y path e in (omega arith, ap (λ k. slice_index_or (y ∷ path) k 0) here ∙ eqb-true y x e)
  | inr e ↦
      let later = path_place_later x y path e in
      let rest = at_its_place x path (behind_it e h) in
      let next : place_of (y ∷ path) x ≡ suc (place_of path x) = omega arith in
      let less = rest.0 in (omega arith, ap (λ k. slice_index_or (y ∷ path) k 0) next ∙ rest.1)
] where
  behind_it : eqb y x ≡ false → (x ≡ y) ⊎ IsIn x path → IsIn x path
  behind_it e (inl same) = absurd (false≢true (sym e ∙ eq-eqb y x (sym same)))
  behind_it e (inr k) = k

-- no crossing stands twice on a path
pub path_once : (rows : Rows) → IsWellFormed rows → (e : ℕ) (row : EdgeRow) → edge_row rows e ≡ Some row → (y : ℕ) → IsIn y row.crossings
    → occurrences y row.crossings ≤ 1
path_once rows good e row there y h =
    let row_there = row_in rows e row there in
    let pick = some_of (cross_row rows y) (crossing_there rows good.paths row row_there y h) in
    let at = found (λ x. x.id == y) pick.0 rows.crossings pick.1 in
    subst (λ n. occurrences n row.crossings ≤ 1) (eqb-true pick.0.id y at.1)
    (at_most_one _ _ ((good_crossing rows good.crossings pick.0 at.0).counted row row_there))

-- a crossing stands on the paths of both its edges
pub on_path_of : (rows : Rows) → IsWellFormed rows → (x : CrossRow) → IsIn x rows.crossings → (e : ℕ) → is_some (edge_row rows e) ≡ true
    → (e == x.crossed || e == x.newcomer) ≡ true → IsIn x.id (edge_at rows e).crossings
on_path_of rows good x h e known is_one = grind (arith, some_of, row_id, good_crossing, row_in, one, edge_at_row, in_counted)

-- ---- Lifted darts

-- the new parts of a segment: where the lifted darts of segment s of e stand, and a single new crossing between them
pub record SegmentParts (rows after : Rows) (r : Route) (e s : ℕ) : Type 0 where
  pub first : ℕ
  pub lifts_forward : lifted rows after (forward e s) ≡ forward e first
  pub lifts_back : lifted rows after (back e s) ≡ back e (first + length (new_on rows r e s))
  pub crossing : (x : ℕ) → new_on rows r e s ≡ x ∷ [] → place_on after e x ≡ first

module _ (rows after : Rows) where
  -- where the lifted darts stand, by the two paths
  pub lifted_forward : (e s : ℕ) → lifted rows after (forward e s) ≡ forward e (first_part (edge_at rows e).crossings (edge_at after e).crossings s)
  lifted_forward e s = by_test (s == 0) (place_on after e (slice_index_or (edge_at rows e).crossings (s - 1) 0) + 1) where
    by_test : (t : Bool) (k : ℕ) → cond {A = Dart} t (forward e 0) (forward e k) ≡ forward e (cond t 0 k)
    by_test true k = refl
    by_test false k = refl

  pub lifted_back : (e s : ℕ) → lifted rows after (back e s) ≡ back e (last_part (edge_at rows e).crossings (edge_at after e).crossings s)
  lifted_back e s = by_test (s == length (edge_at rows e).crossings) (length (edge_at after e).crossings)
      (place_on after e (slice_index_or (edge_at rows e).crossings s 0)) where
        by_test : (t : Bool) (j k : ℕ) → cond {A = Dart} t (back e j) (back e k) ≡ back e (cond t j k)
        by_test true j k = refl
        by_test false j k = refl

  -- a lifted dart is of the same edge and way
  pub lifted_edge : (d : Dart) → (lifted rows after d).edge ≡ d.edge
  lifted_edge d = grind (arith, lifted_forward, lifted_back)

  -- the dart that goes on from a crossing is the lifted one
  pub lifted_ahead : (e x : ℕ) → IsIn x (edge_at rows e).crossings → ahead after e x ≡ lifted rows after (ahead rows e x)
  lifted_ahead e x h = grind (arith, at_its_place, eqb_more)

  -- and so is the one that goes back
  pub lifted_behind : (e x : ℕ) → IsIn x (edge_at rows e).crossings → behind after e x ≡ lifted rows after (behind rows e x)
  lifted_behind e x h = grind (arith, at_its_place, eqb_less)

-- ---- In the picture that shows the new edge

module _ (rows : Rows) (u v kind : ℕ) (r : Route) (good : IsWellFormed rows) (once : CrossesOnce r.crossed) (now : IsWellFormed (shown rows u v kind r)) where
  abbrev after : Rows
  after = shown rows u v kind r

  -- the dart of an end of an old edge is lifted
  pub lifted_end : (w e : ℕ) → is_some (edge_row rows e) ≡ true → end_dart after w e ≡ lifted rows after (end_dart rows w e)
  lifted_end w e known =
      let pick = some_of (edge_row rows e) known in
      let same : (edge_at after e).a ≡ (edge_at rows e).a = ap (λ (row : EdgeRow). row.a) (shown_old_edge rows u v kind r e pick.0 pick.1)
      ∙ sym (ap (λ (row : EdgeRow). row.a) (edge_at_row rows e pick.0 pick.1)) in
      ap (λ a. cond {A = Dart} (a == w) (forward e 0) (back e (length (edge_at after e).crossings))) same ∙ by_test ((edge_at rows e).a == w) where
        by_test : (t : Bool) → cond {A = Dart} t (forward e 0) (back e (length (edge_at after e).crossings))
            ≡ lifted rows after (cond {A = Dart} t (forward e 0) (back e (length (edge_at rows e).crossings)))
        by_test true = refl
        by_test false = sym (ap (λ (t : Bool). cond {A = Dart} t (back e (length (edge_at after e).crossings))
            (behind after e (slice_index_or (edge_at rows e).crossings (length (edge_at rows e).crossings) 0))) (eqb_self (length (edge_at rows e).crossings)))

  parted : (e : ℕ) (row : EdgeRow) → edge_row rows e ≡ Some row → (s : ℕ) → s ≤ length row.crossings
      → IsParted (new_on rows r e s) s row.crossings (edge_at after e).crossings
  parted e row there s h =
      let base = woven_parts (new_on rows r row.id) 0 s row.crossings h in
      grind (arith, shown_old_edge, row_id)

  once_after : (e : ℕ) (row : EdgeRow) → edge_row rows e ≡ Some row → (y : ℕ) → IsIn y (edge_at after e).crossings
      → occurrences y (edge_at after e).crossings ≤ 1
  once_after e row there =
      let at = shown_old_edge rows u v kind r e row there in
      subst (λ (list : List ℕ). (y : ℕ) → IsIn y list → occurrences y list ≤ 1) (sym (ap (λ (row : EdgeRow). row.crossings) at))
      (path_once after now e (crossed_row rows r row) (shown_old_row rows u v kind r e row there))

  -- the parts of a segment
  pub segment_parts : (d : Dart) → has_dart (darts rows) d ≡ true → SegmentParts rows after r d.edge d.seg
  segment_parts d h =
      let is_dart = of_rows_is_dart rows d (sym (listed_test rows good.paths d) ∙ h) in
      let e = d.edge in
      let s = d.seg in
      let row = is_dart.0 in
      let inside : s ≤ length row.crossings = let less = is_dart.2 in omega arith in
      let parts = parted e row is_dart.1 s inside in
      let once_there = once_after e row is_dart.1 in
      let path = ap (λ (row : EdgeRow). row.crossings) (edge_at_row rows e row is_dart.1) in
      record {
        first = length parts.front;
        lifts_forward =
            lifted_forward rows after e s
            ∙ ap (λ list. forward e (first_part list (edge_at after e).crossings s)) path
            ∙ ap (forward e) (first_part_is (new_on rows r e s) s row.crossings (edge_at after e).crossings inside parts once_there);
        lifts_back =
            lifted_back rows after e s
            ∙ ap (λ list. back e (last_part list (edge_at after e).crossings s)) path
            ∙ ap (back e) (last_part_is (new_on rows r e s) s row.crossings (edge_at after e).crossings inside parts once_there);
        crossing = place_of_new (new_on rows r e s) s row.crossings (edge_at after e).crossings inside parts once_there;
      }

  -- a segment that the route does not cross keeps its twins
  pub uncrossed_twins : (d : Dart) → has_dart (darts rows) d ≡ true → AllByRecursion (λ c. same_segment c d ≡ false) r.crossed
      → lifted rows after (dart_twin d) ≡ dart_twin (lifted rows after d)
  uncrossed_twins d h apart =
      let parts = segment_parts d h in
      let none : new_on rows r d.edge d.seg ≡ [] =
      none_on d rows.next_crossing r.crossed (λ c k. each_of (λ c. same_segment c d ≡ false) r.crossed apart c k) in
      grind arith

  -- a crossed segment ends at the new crossing, and another one begins there
  pub record CrossedTwins (x : ℕ) (d : Dart) : Type 0 where
    pub before : dart_twin (lifted rows after d) ≡ backward after x d
    pub behind_it : lifted rows after (dart_twin d) ≡ dart_twin (onward after x d)

  -- so it is at each crossed dart
  pub crossed_twins : (x : ℕ) (d : Dart) → IsIn (x, d) (numbered rows r) → has_dart (darts rows) d ≡ true → CrossedTwins x d
  crossed_twins x d at h =
      let parts = segment_parts d h in
      grind (arith, one_on)

  -- ---- The new edge

  -- its crossings stand in order
  pub place_on_newcomer : (x : ℕ) (d : Dart) → IsIn (x, d) (numbered rows r) → place_on after rows.next_edge x ≡ x - rows.next_crossing
  place_on_newcomer x d at = ap (λ (row : EdgeRow). place_of row.crossings x) (shown_new_edge rows u v kind r good.paths)
      ∙ place_of_number rows.next_crossing x d r.crossed at

  -- as many as the route crosses darts
  pub newcomer_length : length (map (λ x. x.0) (numbered rows r)) ≡ length r.crossed
  newcomer_length = length-map (numbered rows r) (λ x. x.0) ∙ length-enumerate_from rows.next_crossing r.crossed

  -- its darts
  pub newcomer_dart : (i : ℕ) (way : Way) → i ≤ length r.crossed → has_dart (darts after) (record { edge = rows.next_edge; seg = i; way = way }) ≡ true
  newcomer_dart i way h =
      let many = newcomer_length in
      listed_test after now.paths (record { edge = rows.next_edge; seg = i; way = way })
      ∙ is_dart_of_rows after (record { edge = rows.next_edge; seg = i; way = way })
      (newcomer_row rows u v kind r, shown_new_row rows u v kind r good.paths, omega arith)

  -- and their segments
  pub newcomer_segment : (d : Dart) → has_dart (darts after) d ≡ true → d.edge ≡ rows.next_edge → d.seg ≤ length r.crossed
  newcomer_segment d h e =
      let is_dart = of_rows_is_dart after d (sym (listed_test after now.paths d) ∙ h) in
      grind (arith, newcomer_row, shown_new_row, newcomer_length)

  -- the darts of the new edge at a vertex
  pub newcomer_end : (w : ℕ) → end_dart after w rows.next_edge ≡ cond {A = Dart} (u == w) (forward rows.next_edge 0) (back rows.next_edge (length r.crossed))
  newcomer_end w = grind (arith, shown_new_edge, newcomer_length)
