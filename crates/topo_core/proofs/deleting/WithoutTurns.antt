-- How the darts of a picture without an edge turned before.
use Rattle.std.proofs.Common.{◌≡◌, ℕ, ◌+◌, ◌<◌, ◌≤◌, Bool, true, false, cond, not, ◌||◌, List}
use Rattle.std.proofs.Common.{[], ◌∷◌, ◌++◌, length, refl, sym, ap, subst, ◌∙◌, arith, inl, inr}
use Rattle.std.specs.Prelude.{◌==◌, ◌⊎◌, filter, is_some, map, slice_index_or}
use Rattle.std.specs.List.{range_with_len}
use Rattle.std.proofs.lemmas.List.{map-append}
use Rattle.std.proofs.lemmas.Simd.{map-map}
use Rattle.std.proofs.lemmas.Bool.{cases_Bool, eq-eqb, eqb-true, false≢true, or_left, or_right}
use Rattle.topo_core.specs.declared.darts.Dart.{Dart}
use Rattle.topo_core.specs.declared.darts.Sign.{Sign}
use Rattle.topo_core.specs.declared.darts.Sign.TheVariants.{LeftToRight, RightToLeft}
use Rattle.topo_core.specs.declared.darts.Way.{Way}
use Rattle.topo_core.specs.declared.darts.Way.TheVariants.{Forward, Back}
use Rattle.topo_core.specs.declared.rows.CrossRow.{CrossRow}
use Rattle.topo_core.specs.declared.rows.EdgeRow.{EdgeRow}
use Rattle.topo_core.specs.declared.rows.Rows.{Rows}
use Rattle.topo_core.specs.Changes.{without}
use Rattle.topo_core.specs.Darts.{reversed, same_dart}
use Rattle.topo_core.specs.Deletions.{HidesTurns, IsCrossingOf, newcomer_rightward, rightward}
use Rattle.topo_core.specs.Insertions.{FollowsBut, lifted, onward_by}
use Rattle.topo_core.specs.Items.{IsIn, occurrences}
use Rattle.topo_core.specs.Lawful.{IsWellFormed}
use Rattle.topo_core.specs.Picture.{ahead, around_crossing, around_vertex, behind, clockwise, darts, edge_at, edge_row, end_dart, rotation, system, vertices}
use Rattle.topo_core.specs.Pictures.{back, forward}
use Rattle.topo_core.specs.Systems.{darts_in, has_dart, turn}
use Rattle.topo_core.proofs.numbering.Counting.{at_most_one, one}
use Rattle.topo_core.proofs.numbering.DartLaws.{same_dart_self, same_dart_true}
use Rattle.topo_core.proofs.growing.Growing.{in_append, map_same}
use Rattle.topo_core.proofs.numbering.Members.{range_below}
use Rattle.topo_core.proofs.numbering.Numbering.{distinct_system, not_same}
use Rattle.topo_core.proofs.systems.Points.{at_point_in, has_image, image_of_dart, next_of_image, point_of, turn_at_point}
use Rattle.topo_core.proofs.systems.RoundPoints.{distinct_exchanged, has_exchanged, IsTakenOut, next_of_four}
use Rattle.topo_core.proofs.systems.RoundPoints.{next_of_taken, next_rotated, next_without, taken_out}
use Rattle.topo_core.proofs.routing.RouteDarts.{has_item}
use Rattle.topo_core.proofs.inserting.ShownPlaces.{in_counted, lifted_edge}
use Rattle.topo_core.proofs.inserting.ShownRows.{in_images}
use Rattle.topo_core.proofs.numbering.Standing.{good_rotation, system_test, end_dart_edge}
use Rattle.topo_core.proofs.systems.SystemDarts.{crossing_point, edge_at_row, eqb_self, path_facts, row_id, row_in, some_of, vertex_in, vertex_point}
use Rattle.topo_core.proofs.systems.Turning.{distinct_right, IsDistinct, next_around}
use Rattle.topo_core.proofs.deleting.WithoutPlaces.{ahead_there, aheads_apart, behind_there, behinds_apart, between_of, dart_runs}
use Rattle.topo_core.proofs.deleting.WithoutPlaces.{edge_dart, edge_meets, edge_of_dart, edge_place, gone_apart, left_edge, left_end}
use Rattle.topo_core.proofs.deleting.WithoutPlaces.{lifted_apart, lifted_there, now, on_a_segment, on_one_segment, one_of, other_edge}
use Rattle.topo_core.proofs.deleting.WithoutRows.{filter_passes, IsRotated, without_crossings, without_rotated, without_vertices}
use Rattle.topo_core.proofs.systems.Bypassing.{point_distinct}
use Rattle.topo_core.proofs.inserting.ShownPoints.{around_lifted}

-- ---- In a picture without an edge

module _ (rows : Rows) (e : ℕ) (good : IsWellFormed rows) (known : is_some (edge_row rows e) ≡ true) where
  abbrev after : Rows
  after = without rows e

  abbrev is_good : IsWellFormed after
  is_good = now rows e good known

  abbrev lift : Dart → Dart
  lift = lifted after rows

  distinct_before : IsDistinct (darts_in (system rows))
  distinct_before = distinct_system rows good.paths good.crossings good.rotations

  distinct_after : IsDistinct (darts_in (system after))
  distinct_after = distinct_system after is_good.paths is_good.crossings is_good.rotations

  -- a dart round a point is one of the picture
  at_point_there : (around : List Dart) → IsIn around (system after) → (d : Dart) → has_dart around d ≡ true → has_dart (darts after) d ≡ true
  at_point_there around at d h = sym (system_test after is_good.paths is_good.crossings is_good.rotations d) ∙ at_point_in (system after) around d at h

  same_lift : (c d : Dart) → has_dart (darts after) c ≡ true → has_dart (darts after) d ≡ true → same_dart (lift d) (lift c) ≡ same_dart d c
  same_lift c d h k = elim (cases_Bool (same_dart d c)) [
    | inl s ↦ ap (λ y. same_dart (lift d) (lift y)) (sym (same_dart_true d c s)) ∙ same_dart_self (lift d) ∙ sym s
    | inr s ↦ not_same (lift d) (lift c) (λ same. false≢true (sym s ∙ ap (same_dart d) (sym (lifted_apart rows e good known d c k h same)) ∙ same_dart_self d))
        ∙ sym s
  ]

  -- what comes next round a point, lifted
  next_lifted : (around : List Dart) (d : Dart) → IsIn around (system after) → has_dart around d ≡ true
      → next_around (map lift around) (lift d) ≡ lift (turn (system after) d)
  next_lifted around d at h =
      next_of_image lift d around (λ c k. same_lift c d (at_point_there around at c k) (at_point_there around at d h))
      ∙ ap lift (sym (turn_at_point (system after) distinct_after around d at h))

  turn_before : (around : List Dart) (d : Dart) → IsIn around (system rows) → has_dart around d ≡ true → turn (system rows) d ≡ next_around around d
  turn_before = turn_at_point (system rows) distinct_before

  -- ---- Round the crossings that are left

  turns_at_left : (x : CrossRow) (d : Dart) → IsIn x after.crossings → has_dart (around_crossing after x) d ≡ true
      → turn (system rows) (lift d) ≡ lift (turn (system after) d)
  turns_at_left x d h k =
      let same = around_lifted after rows is_good x h in
      turn_before (around_crossing rows x) (lift d) (crossing_point rows x (without_crossings rows e x h).0)
      (ap (λ ds. has_dart ds (lift d)) same ∙ has_image lift (around_crossing after x) d k)
      ∙ ap (λ ds. next_around ds (lift d)) same
      ∙ next_lifted (around_crossing after x) d (crossing_point after x h) k

  -- ---- Round the vertices

  module _ (w : ℕ) (inside : w < length rows.rotations) where
    w_in : IsIn w (vertices rows)
    w_in = vertex_in rows w inside

    w_left : IsIn w (vertices after)
    w_left = subst (λ n. IsIn w (range_with_len 0 n)) (sym (without_vertices rows e)) w_in

    point_before : IsIn (around_vertex rows w) (system rows)
    point_before = vertex_point rows w w_in

    point_after : IsIn (around_vertex after w) (system after)
    point_after = vertex_point after w w_left

    -- the darts of the edges that are left, as they stood before
    abbrev kept : List Dart
    kept = map (end_dart rows w) (filter (λ f. not (f == e)) (rotation rows w))

    entry_left : (f : ℕ) → IsIn f (rotation after w) → is_some (edge_row after f) ≡ true
    entry_left = (good_rotation after is_good.rotations w w_left).known

    ends_lifted : map lift (around_vertex after w) ≡ map (end_dart rows w) (rotation after w)
    ends_lifted =
        map-map lift (end_dart after w) (rotation after w)
        ∙ map_same (λ f. lift (end_dart after w f)) (end_dart rows w) (rotation after w) (λ f h. sym (left_end rows e good known w f (entry_left f h)))

    once : occurrences e (rotation rows w) ≤ 1
    once =
        let row = some_of (edge_row rows e) known in
        subst (λ n. occurrences n (rotation rows w) ≤ 1) (row_id rows e row.0 row.1)
        (at_most_one _ _ ((good_rotation rows good.rotations w w_in).counted row.0 (row_in rows e row.0 row.1)))

    -- the picture's list is the one before without the edge, from another place on
    abbrev turned : IsRotated (filter (λ f. not (f == e)) (rotation rows w)) (rotation after w)
    turned = without_rotated rows e w

    kept_is : kept ≡ map (end_dart rows w) turned.front ++ map (end_dart rows w) turned.back
    kept_is = ap (map (end_dart rows w)) turned.was ∙ map-append (end_dart rows w) turned.front turned.back

    lifted_is : map lift (around_vertex after w) ≡ map (end_dart rows w) turned.back ++ map (end_dart rows w) turned.front
    lifted_is = ends_lifted ∙ ap (map (end_dart rows w)) turned.now ∙ map-append (end_dart rows w) turned.back turned.front

    kept_has : (d : Dart) → has_dart (around_vertex after w) d ≡ true → has_dart kept (lift d) ≡ true
    kept_has d h =
        ap (λ ds. has_dart ds (lift d)) kept_is
        ∙ has_exchanged (map (end_dart rows w) turned.front) (map (end_dart rows w) turned.back) (lift d)
        ∙ ap (λ ds. has_dart ds (lift d)) (sym lifted_is)
        ∙ has_image lift (around_vertex after w) d h

    next_kept : IsDistinct kept → (d : Dart) → has_dart (around_vertex after w) d ≡ true → next_around kept (lift d) ≡ lift (turn (system after) d)
    next_kept distinct d h = grind (arith, next_around, kept_is, next_rotated, distinct, kept_has, lifted_is, next_lifted, point_after)

    around_distinct : IsDistinct (around_vertex rows w)
    around_distinct = point_distinct (system rows) (around_vertex rows w) distinct_before point_before

    -- the list with the dart of the edge, in parts
    parts_are : (out : IsTakenOut e (rotation rows w))
        → around_vertex rows w ≡ map (end_dart rows w) out.front ++ end_dart rows w e ∷ map (end_dart rows w) out.back
    parts_are out = ap (map (end_dart rows w)) out.was ∙ map-append (end_dart rows w) out.front (e ∷ out.back)

    kept_parts : (out : IsTakenOut e (rotation rows w)) → kept ≡ map (end_dart rows w) out.front ++ map (end_dart rows w) out.back
    kept_parts out = ap (map (end_dart rows w)) out.now ∙ map-append (end_dart rows w) out.front out.back

    -- each dart is followed as now, but for the edge
    turns_at_vertex : (d : Dart) → has_dart (around_vertex after w) d ≡ true → FollowsBut rows e (lift d) (lift (turn (system after) d))
    turns_at_vertex d h = elim (taken_out e (rotation rows w) once) [
      | inl out ↦
          let h_front = map (end_dart rows w) out.front in
          let h_back = map (end_dart rows w) out.back in
          let x = end_dart rows w e in
          let parts = parts_are out in
          let without_it = kept_parts out in
          let distinct : IsDistinct (h_front ++ x ∷ h_back) = subst IsDistinct parts around_distinct in
          let fewer : IsDistinct kept = subst IsDistinct (sym without_it) (less_distinct h_front h_back x distinct) in
          let apart : same_dart (lift d) x ≡ false = not_same (lift d) x (λ same.
          (left_edge rows e good known d.edge (edge_of_dart after is_good d (at_point_there (around_vertex after w) point_after d h))).apart
          (sym (lifted_edge after rows d) ∙ ap (λ (y : Dart). y.edge) same ∙ end_dart_edge rows w e)) in
          let in_parts : has_dart (h_front ++ h_back) (lift d) ≡ true = ap (λ ds. has_dart ds (lift d)) (sym without_it) ∙ kept_has d h in
          let d_there : has_dart (around_vertex rows w) (lift d) ≡ true = ap (λ ds. has_dart ds (lift d)) parts ∙ has_exchanged h_front (x ∷ h_back) (lift d)
          ∙ or_right (same_dart (lift d) x) (has_dart (h_back ++ h_front) (lift d)) (has_exchanged h_back h_front (lift d) ∙ in_parts) in
          let x_there : has_dart (around_vertex rows w) x ≡ true = ap (λ ds. has_dart ds x) parts ∙ has_exchanged h_front (x ∷ h_back) x
          ∙ or_left (same_dart x x) (has_dart (h_back ++ h_front) x) (same_dart_self x) in
          let d_next = turn_before (around_vertex rows w) (lift d) point_before d_there ∙ ap (λ ds. next_around ds (lift d)) parts in
          grind (arith, turn_before, point_before, next_around, next_kept, next_without, end_dart_edge)
      | inr same ↦ grind (arith, turn_before, point_before, kept_has, next_around, next_kept, around_distinct)
    ] where
      less_distinct : (front back : List Dart) (x : Dart) → IsDistinct (front ++ x ∷ back) → IsDistinct (front ++ back)
      less_distinct front back x distinct =
          distinct_exchanged back front (distinct_right (x ∷ []) (back ++ front) (distinct_exchanged front (x ∷ back) distinct))

    -- the dart of the edge is followed by itself or by a lifted one
    edge_turns : IsIn e (rotation rows w) → (turn (system rows) (end_dart rows w e) ≡ end_dart rows w e)
        ⊎ ((c : Dart) × (has_dart (darts after) c ≡ true) × (turn (system rows) (end_dart rows w e) ≡ lift c))
    edge_turns there = elim (taken_out e (rotation rows w) once) [
      | inl out ↦
          let h_front = map (end_dart rows w) out.front in
          let h_back = map (end_dart rows w) out.back in
          let x = end_dart rows w e in
          let parts = parts_are out in
          let x_there : has_dart (around_vertex rows w) x ≡ true = ap (λ ds. has_dart ds x) parts ∙ has_exchanged h_front (x ∷ h_back) x
          ∙ or_left (same_dart x x) (has_dart (h_back ++ h_front) x) (same_dart_self x) in
          let next : turn (system rows) x ≡ slice_index_or (h_back ++ h_front) 0 x = turn_before (around_vertex rows w) x point_before x_there
          ∙ ap (λ ds. next_around ds x) parts ∙ next_of_taken h_front h_back x (subst IsDistinct parts around_distinct) in
          elim (first_of (h_back ++ h_front) x) [
            | inl none ↦ inl (next ∙ none)
            | inr head ↦ grind (arith, kept_parts, has_exchanged, lifted_is, kept_is, image_of_dart, at_point_there, point_after)
          ]
      | inr same ↦ absurd (false≢true (ap not (sym (eqb_self e)) ∙ filter_passes (λ f. not (f == e)) e (rotation rows w) (subst (IsIn e) (sym same) there)))
    ] where
      first_of : (ds : List Dart) (x : Dart) → (slice_index_or ds 0 x ≡ x) ⊎ (has_dart ds (slice_index_or ds 0 x) ≡ true)
      first_of [] x = inl refl
      first_of (d ∷ ds) x = inr (or_left (same_dart d d) (has_dart ds d) (same_dart_self d))

  -- each dart of the picture is followed as before, but for the edge
  pub turns_as_now : (d : Dart) → has_dart (darts after) d ≡ true → FollowsBut rows e (lift d) (lift (turn (system after) d))
  turns_as_now d h =
      let point = point_of (system after) d (system_test after is_good.paths is_good.crossings is_good.rotations d ∙ h) in
      elim (in_append point.0 (map (around_vertex after) (vertices after)) (map (around_crossing after) after.crossings) point.1) [
        | inl at_vertex ↦
            let image = in_images (around_vertex after) point.0 (vertices after) at_vertex in
            let below = range_below image.0 0 (length after.rotations) image.1 in
            let same = without_vertices rows e in
            turns_at_vertex image.0 (omega arith) d (ap (λ ds. has_dart ds d) (sym image.2) ∙ point.2)
        | inr at_crossing ↦
            let image = in_images (around_crossing after) point.0 after.crossings at_crossing in
            inl (turns_at_left image.0 d image.1 (ap (λ ds. has_dart ds d) (sym image.2) ∙ point.2))
      ]

  -- ---- Round the crossings of the edge

  -- a list of darts that stand round one point
  record IsPoint (around : List Dart) : Type 0 where
    turned_by : (d : Dart) → has_dart around d ≡ true → turn (system rows) d ≡ next_around around d
    distinct : IsDistinct around

  point_of_crossing : (x : CrossRow) → IsIn x rows.crossings → IsPoint (around_crossing rows x)
  point_of_crossing x h = record {
    turned_by = λ d k. turn_before (around_crossing rows x) d (crossing_point rows x h) k;
    distinct = point_distinct (system rows) (around_crossing rows x) distinct_before (crossing_point rows x h);
  }

  four_turns : (a b c d : Dart) → IsPoint (a ∷ b ∷ c ∷ d ∷ []) → (turn (system rows) a ≡ b) × (turn (system rows) b ≡ c) × (turn (system rows) c ≡ d)
      × (turn (system rows) d ≡ a)
  four_turns a b c d point =
      let four = a ∷ b ∷ c ∷ d ∷ [] in
      let next = next_of_four a b c d point.distinct in (
        point.turned_by a (has_item a four (inl refl)) ∙ next.first,
        point.turned_by b (has_item b four (inr (inl refl))) ∙ next.second,
        point.turned_by c (has_item c four (inr (inr (inl refl)))) ∙ next.third,
        point.turned_by d (has_item d four (inr (inr (inr (inl refl))))) ∙ next.last,
      )

  -- edge c ahead, the dart of the edge that goes this way, edge c back, the other dart of the edge
  pub record RoundCrossing (c n : ℕ) (w : Way) : Type 0 where
    pub to_right : turn (system rows) (ahead rows c n) ≡ onward_by rows n e w
    pub from_right : turn (system rows) (onward_by rows n e w) ≡ behind rows c n
    pub to_left : turn (system rows) (behind rows c n) ≡ onward_by rows n e (reversed w)
    pub from_left : turn (system rows) (onward_by rows n e (reversed w)) ≡ ahead rows c n

  round_newcomer : (sign : Sign) (c n : ℕ) → IsPoint (clockwise sign (ahead rows c n) (behind rows c n) (ahead rows e n) (behind rows e n))
      → RoundCrossing c n (newcomer_rightward sign)
  round_newcomer LeftToRight c n point = grind (arith, four_turns)
  round_newcomer RightToLeft c n point = grind (arith, four_turns)

  round_crossed : (sign : Sign) (c n : ℕ) → IsPoint (clockwise sign (ahead rows e n) (behind rows e n) (ahead rows c n) (behind rows c n))
      → RoundCrossing c n (reversed (newcomer_rightward sign))
  round_crossed LeftToRight c n point = grind (arith, four_turns)
  round_crossed RightToLeft c n point = grind (arith, four_turns)

  -- as the crossing's sign says
  pub round_crossing : (c : ℕ) (x : CrossRow) → IsCrossingOf rows e c x → RoundCrossing c x.id (rightward x e)
  round_crossing c x is =
      let at = λ (a b : ℕ). clockwise x.sign (ahead rows a x.id) (behind rows a x.id) (ahead rows b x.id) (behind rows b x.id) in
      let point = point_of_crossing x is.there in
      grind (arith, cases_Bool, other_edge, eqb-true, round_crossed, eq-eqb, round_newcomer)

  -- ---- The ends of the edge

  abbrev row : EdgeRow
  row = edge_at rows e

  -- what is known of its row
  record EdgeFacts : Type 0 where
    a_in : row.a < length rows.rotations
    b_in : row.b < length rows.rotations
    apart : (row.a == row.b) ≡ false
    at_ends : (w : ℕ) → w < length rows.rotations → (row.a == w || row.b == w) ≡ true → IsIn e (rotation rows w)

  edge_facts : EdgeFacts
  edge_facts =
      let pick = some_of (edge_row rows e) known in
      let facts = path_facts rows good.paths pick.0 (row_in rows e pick.0 pick.1) in
      let same = edge_at_row rows e pick.0 pick.1 in
      record {
        a_in = subst (λ (r : EdgeRow). r.a < length rows.rotations) (sym same) facts.a_in;
        b_in = subst (λ (r : EdgeRow). r.b < length rows.rotations) (sym same) facts.b_in;
        apart = subst (λ (r : EdgeRow). (r.a == r.b) ≡ false) (sym same) facts.apart;
        at_ends = λ w inside is_end.
            let counted = (good_rotation rows good.rotations w (w_in w inside)).counted pick.0 (row_in rows e pick.0 pick.1) in
            let test : (pick.0.a == w || pick.0.b == w) ≡ true = subst (λ (r : EdgeRow). (r.a == w || r.b == w) ≡ true) same is_end in
            let all : occurrences pick.0.id (rotation rows w) ≡ 1 = counted ∙ ap one test in
            subst (λ n. IsIn n (rotation rows w)) (row_id rows e pick.0 pick.1) (in_counted pick.0.id (rotation rows w) (omega arith));
      }

  abbrev IsFollowed : Dart → Type 0
  IsFollowed d = (turn (system rows) d ≡ d) ⊎ ((c : Dart) × (has_dart (darts after) c ≡ true) × (turn (system rows) d ≡ lift c))

  pub first_turns : IsFollowed (forward e 0)
  first_turns =
      let end : end_dart rows row.a e ≡ forward e 0 = ap (λ (t : Bool). cond {A = Dart} t (forward e 0) (back e (length row.crossings))) (eqb_self row.a) in
      subst IsFollowed end
      (edge_turns row.a edge_facts.a_in (edge_facts.at_ends row.a edge_facts.a_in (or_left (row.a == row.a) (row.b == row.a) (eqb_self row.a))))

  pub last_turns : IsFollowed (back e (length row.crossings))
  last_turns =
      let end : end_dart rows row.b e ≡ back e (length row.crossings) =
      ap (λ (t : Bool). cond {A = Dart} t (forward e 0) (back e (length row.crossings))) edge_facts.apart in
      subst IsFollowed end
      (edge_turns row.b edge_facts.b_in (edge_facts.at_ends row.b edge_facts.b_in (or_right (row.a == row.b) (row.b == row.b) (eqb_self row.b))))

  -- ---- The deletion

  -- all of it
  pub turns_hidden : HidesTurns rows e after
  turns_hidden = record {
    lifts = lifted_there rows e good known;
    lifts_apart = lifted_apart rows e good known;
    left_edges = λ d h. (left_edge rows e good known d.edge (edge_of_dart after is_good d h)).apart;
    turns = turns_as_now;
    segments = dart_runs rows e good known;
    between = between_of rows e good known;
    on_segment = on_a_segment rows e good known;
    one_segment = on_one_segment rows e good known;
    other_edge = λ c x is. let other = other_edge rows e good known c x is in (other.apart, other.left);
    crossed_there = λ c x is. (ahead_there rows e good known c x is, behind_there rows e good known c x is);
    gone_points = gone_apart rows e good known;
    ahead_apart = aheads_apart rows e good known;
    behind_apart = behinds_apart rows e good known;
    round_ahead = λ c x is. let round = round_crossing c x is in (round.to_right, round.from_right);
    round_behind = λ c x is. let round = round_crossing c x is in (round.to_left, round.from_left);
    edge_there = edge_dart rows e good known;
    edge_crossing = λ i n at.
        let place = edge_place rows e good known i n at in
        let meets = edge_meets rows e good known i n at in
        (meets.0, meets.1, meets.2, meets.3, ap (λ k. forward e (k + 1)) place, ap (back e) place);
    first_end = first_turns;
    last_end = last_turns;
    no_others = one_of rows e good known;
  }

-- the picture without an edge turns along the edge as it should, and elsewhere as before
pub hides_turns : (rows : Rows) (e : ℕ) → IsWellFormed rows → is_some (edge_row rows e) ≡ true → HidesTurns rows e (without rows e)
hides_turns = turns_hidden

-- ---- The two orders round a crossing

-- round a crossing of e and c: c ahead, one dart of e, c back, the other dart of e
pub record GoesRound (q : Rows) (c n : ℕ) (first second : Dart) : Type 0 where
  pub from_ahead : turn (system q) (ahead q c n) ≡ first
  pub from_first : turn (system q) first ≡ behind q c n
  pub from_behind : turn (system q) (behind q c n) ≡ second
  pub from_second : turn (system q) second ≡ ahead q c n

-- e ahead is the first of its two, or the second
pub two_orders : (q : Rows) (e : ℕ) (p : Rows) → HidesTurns q e p → (c : ℕ) (x : CrossRow) → IsCrossingOf q e c x
    → GoesRound q c x.id (ahead q e x.id) (behind q e x.id) ⊎ GoesRound q c x.id (behind q e x.id) (ahead q e x.id)
two_orders q e p hides c x is =
    let right = hides.round_ahead c x is in
    let left = hides.round_behind c x is in
    by_way (rightward x e) (record { from_ahead = right.0; from_first = right.1; from_behind = left.0; from_second = left.1 }) where
      by_way : (w : Way) → GoesRound q c x.id (onward_by q x.id e w) (onward_by q x.id e (reversed w))
          → GoesRound q c x.id (ahead q e x.id) (behind q e x.id) ⊎ GoesRound q c x.id (behind q e x.id) (ahead q e x.id)
      by_way Forward round = inl round
      by_way Back round = inr round
