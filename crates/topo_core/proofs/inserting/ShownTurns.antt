-- How the darts of a picture turn once it shows a new edge along a route.
use Rattle.std.proofs.Common.{◌≡◌, ◌≢◌, ℕ, ◌+◌, ◌≤◌, Bool, true, false, List, [], ◌∷◌, ◌++◌, length, not, ◌||◌, refl, sym, ap, subst, ◌∙◌, arith, inl, inr}
use Rattle.std.specs.Prelude.{◌==◌, ◌⊎◌, Some, map, slice_index_or}
use Rattle.std.specs.List.{range_with_len}
use Rattle.std.proofs.lemmas.List.{map-append}
use Rattle.std.proofs.Math.ListN.{get_or-map}
use Rattle.std.proofs.lemmas.Bool.{cases_Bool, eq-eqb, eqb-true, false≢true, or_cases, or_left, or_right}
use Rattle.topo_core.specs.declared.darts.Dart.{Dart}
use Rattle.topo_core.specs.declared.darts.Way.{Way}
use Rattle.topo_core.specs.declared.darts.Way.TheVariants.{Forward, Back}
use Rattle.topo_core.specs.declared.rows.CrossRow.{CrossRow}
use Rattle.topo_core.specs.declared.rows.Rows.{Rows}
use Rattle.topo_core.specs.declared.routes.Route.{Route}
use Rattle.topo_core.specs.Changes.{new_crossing, numbered, shown}
use Rattle.topo_core.specs.Darts.{reversed, same_dart}
use Rattle.topo_core.specs.Insertions.{backward, FollowsBut, IsInsertable, lifted, onward, onward_by, ShowsTurns}
use Rattle.topo_core.specs.Items.{IsIn}
use Rattle.topo_core.specs.Lawful.{IsWellFormed}
use Rattle.topo_core.specs.Picture.{ahead, around_crossing, around_vertex, behind, corner, darts, system, vertices}
use Rattle.topo_core.specs.Pictures.{back, forward}
use Rattle.topo_core.specs.Systems.{darts_in, follower, has_dart, turn}
use Rattle.topo_core.proofs.numbering.DartLaws.{same_dart_self, same_dart_true}
use Rattle.topo_core.proofs.growing.Growing.{in_append}
use Rattle.topo_core.proofs.numbering.Members.{in_left, in_map, in_right}
use Rattle.topo_core.proofs.systems.NewDarts.{follower_new, follower_old, has_dart-append, stands_in}
use Rattle.topo_core.proofs.numbering.Numbering.{distinct_system, not_same}
use Rattle.topo_core.proofs.systems.Points.{at_point_in, follower_of_image, has_image, has_passing, image_of_dart}
use Rattle.topo_core.proofs.systems.Points.{images_apart, next_of_image, passing_has, point_of, points_apart, turn_at_point}
use Rattle.topo_core.proofs.inserting.ShownPlaces.{crossed_twins, lifted_edge, newcomer_dart, newcomer_segment, place_on_newcomer, uncrossed_twins}
use Rattle.topo_core.proofs.inserting.ShownPoints.{around_finish, around_lifted, around_other, around_start, at_point_there, crossed_pair}
use Rattle.topo_core.proofs.inserting.ShownPoints.{crossed_there, darts_without_new, distinct_without_new, is_kept, IsEndPoint, old_edge_below}
use Rattle.topo_core.proofs.inserting.ShownRows.{in_images, shown_vertices}
use Rattle.topo_core.proofs.numbering.Standing.{system_test}
use Rattle.topo_core.proofs.systems.SystemDarts.{crossing_point, vertex_in, vertex_point}
use Rattle.topo_core.proofs.systems.Turning.{distinct_left, distinct_right, IsDistinct, next_around, not_in_both}

-- ---- Round four darts

-- four darts, each apart from those before it, follow one another
abbrev four : Dart → Dart → Dart → Dart → List Dart
four a b c d = a ∷ b ∷ c ∷ d ∷ []

first_of_four : (a b c d : Dart) → next_around (four a b c d) a ≡ b
first_of_four a b c d = rw (same_dart_self a)

second_of_four : (a b c d : Dart) → same_dart b a ≡ false → next_around (four a b c d) b ≡ c
second_of_four a b c d not_a = rw (not_a, same_dart_self b)

third_of_four : (a b c d : Dart) → same_dart c a ≡ false → same_dart c b ≡ false → next_around (four a b c d) c ≡ d
third_of_four a b c d not_a not_b = rw (not_a, not_b, same_dart_self c)

last_of_four : (a b c d : Dart) → same_dart d a ≡ false → same_dart d b ≡ false → same_dart d c ≡ false → next_around (four a b c d) d ≡ a
last_of_four a b c d not_a not_b not_c = rw (not_a, not_b, not_c, same_dart_self d)

has_second : (a b : Dart) (ds : List Dart) → has_dart (a ∷ b ∷ ds) b ≡ true
has_second a b ds = or_right (same_dart b a) (has_dart (b ∷ ds) b) (or_left (same_dart b b) (has_dart ds b) (same_dart_self b))

has_first : (a : Dart) (ds : List Dart) → has_dart (a ∷ ds) a ≡ true
has_first a ds = or_left (same_dart a a) (has_dart ds a) (same_dart_self a)

ways_apart : (i e s n : ℕ) → (forward i s ≡ back e n) → ⊥
ways_apart i e s n same = let ways : Forward ≡ Back = ap (λ (d : Dart). d.way) same in cc

-- the darts of both ways at one crossing are two
onward_twice : (e x : ℕ) (w : Way) (q : Rows) → onward_by q x e w ≡ onward_by q x e (reversed w) → ⊥
onward_twice e x Forward q same = let ways : Forward ≡ Back = ap (λ (d : Dart). d.way) same in cc
onward_twice e x Back q same = let ways : Back ≡ Forward = ap (λ (d : Dart). d.way) same in cc

-- ---- In the picture that shows the new edge

module _ (rows : Rows) (u v kind : ℕ) (r : Route) (good : IsWellFormed rows) (ask : IsInsertable rows u v kind r)
    (now : IsWellFormed (shown rows u v kind r)) where
  abbrev after : Rows
  after = shown rows u v kind r

  abbrev lift : Dart → Dart
  lift = lifted rows after

  abbrev pairs : List Dart
  pairs = darts_in (map (crossed_pair rows u v kind r good ask now) (numbered rows r))

  apart_parts : IsDistinct (map lift (darts_in (system rows)) ++ pairs)
  apart_parts = distinct_without_new rows u v kind r good ask now

  stands_before : (d : Dart) → has_dart (darts rows) d ≡ true → stands_in (system rows) d ≡ true
  stands_before d h = system_test rows good.paths good.crossings good.rotations d ∙ h

  distinct_after : IsDistinct (darts_in (system after))
  distinct_after = distinct_system after now.paths now.crossings now.rotations

  lift_stands : (d : Dart) → has_dart (darts rows) d ≡ true → has_dart (map lift (darts_in (system rows))) (lift d) ≡ true
  lift_stands d h = has_image lift (darts_in (system rows)) d (stands_before d h)

  -- what stands beside the new edge
  in_kept : (d : Dart) → has_dart (map lift (darts_in (system rows)) ++ pairs) d ≡ true → has_dart (darts after) d ≡ true
  in_kept d h =
      sym (system_test after now.paths now.crossings now.rotations d)
      ∙ has_passing (is_kept rows u v kind r good ask now) (darts_in (system after)) d
      (ap (λ ds. has_dart ds d) (darts_without_new rows u v kind r good ask now) ∙ h)

  -- an old dart is lifted to a dart of the picture
  pub lifts : (d : Dart) → has_dart (darts rows) d ≡ true → has_dart (darts after) (lift d) ≡ true
  lifts d h = in_kept (lift d) (has_dart-append (map lift (darts_in (system rows))) pairs (lift d)
      ∙ or_left (has_dart (map lift (darts_in (system rows))) (lift d)) (has_dart pairs (lift d)) (lift_stands d h))

  -- no two of them to the same
  pub lifts_apart : (c d : Dart) → has_dart (darts rows) c ≡ true → has_dart (darts rows) d ≡ true → lift c ≡ lift d → c ≡ d
  lifts_apart c d h k e =
      images_apart lift (darts_in (system rows)) (distinct_left (map lift (darts_in (system rows))) pairs apart_parts) c d (stands_before c h)
      (stands_before d k) e

  -- and none is of the new edge
  pub old_apart : (d : Dart) → has_dart (darts rows) d ≡ true → d.edge ≢ rows.next_edge
  old_apart d h e = let less = old_edge_below rows u v kind r good ask now d h in absurd (omega arith)

  -- ---- The darts at the new crossings

  abbrev pair : ℕ × Dart → List Dart
  pair = crossed_pair rows u v kind r good ask now

  in_pair_by : (x e : ℕ) (w way : Way) → has_dart (ahead after e x ∷ behind after e x ∷ []) (onward_by after x e w) ≡ true
  in_pair_by x e Forward way = has_first (ahead after e x) (behind after e x ∷ [])
  in_pair_by x e Back way = has_second (ahead after e x) (behind after e x) []

  onward_in_pair : (x : ℕ) (d : Dart) → has_dart (pair (x, d)) (onward after x d) ≡ true
  onward_in_pair x d = in_pair_by x d.edge d.way d.way

  backward_in_pair : (x : ℕ) (d : Dart) → has_dart (pair (x, d)) (backward after x d) ≡ true
  backward_in_pair x d = in_pair_by x d.edge (reversed d.way) d.way

  in_pairs : (x : ℕ) (d c : Dart) → IsIn (x, d) (numbered rows r) → has_dart (pair (x, d)) c ≡ true → has_dart pairs c ≡ true
  in_pairs x d c at h = at_point_in (map pair (numbered rows r)) (pair (x, d)) c (in_map pair (x, d) (numbered rows r) at) h

  pair_there : (x : ℕ) (d c : Dart) → IsIn (x, d) (numbered rows r) → has_dart (pair (x, d)) c ≡ true → has_dart (darts after) c ≡ true
  pair_there x d c at h = in_kept c (has_dart-append (map lift (darts_in (system rows))) pairs c
      ∙ or_right (has_dart (map lift (darts_in (system rows))) c) (has_dart pairs c) (in_pairs x d c at h))

  -- no lifted dart starts at a new crossing
  no_lift : (x : ℕ) (d c b : Dart) → IsIn (x, d) (numbered rows r) → has_dart (pair (x, d)) b ≡ true → has_dart (darts rows) c ≡ true → lift c ≢ b
  no_lift x d c b at h k e = not_in_both (map lift (darts_in (system rows))) pairs b apart_parts
      (subst (λ y. has_dart (map lift (darts_in (system rows))) y ≡ true) e (lift_stands c k)) (in_pairs x d b at h)

  -- a dart starts at one new crossing only
  one_pair : (x y : ℕ) (c d b : Dart) → IsIn (x, c) (numbered rows r) → IsIn (y, d) (numbered rows r) → has_dart (pair (x, c)) b ≡ true
      → has_dart (pair (y, d)) b ≡ true → ◌≡◌ {A = ℕ × Dart} (x, c) (y, d)
  one_pair x y c d b at there h k = points_apart pair (numbered rows r) (distinct_right (map lift (darts_in (system rows))) pairs apart_parts) (x, c)
      (y, d) b at there h k

  -- the darts at different crossings are different
  pub onwards_apart : (x y : ℕ) (c d : Dart) → IsIn (x, c) (numbered rows r) → IsIn (y, d) (numbered rows r) → onward after x c ≡ onward after y d → x ≡ y
  onwards_apart x y c d at there e =
      ap (λ p. p.0) (one_pair x y c d (onward after x c) at there (onward_in_pair x c) (ap (has_dart (pair (y, d))) e ∙ onward_in_pair y d))

  pub backwards_apart : (x y : ℕ) (c d : Dart) → IsIn (x, c) (numbered rows r) → IsIn (y, d) (numbered rows r) → backward after x c ≡ backward after y d → x ≡ y
  backwards_apart x y c d at there e =
      ap (λ p. p.0) (one_pair x y c d (backward after x c) at there (backward_in_pair x c) (ap (has_dart (pair (y, d))) e ∙ backward_in_pair y d))

  pub never_both : (x y : ℕ) (c d : Dart) → IsIn (x, c) (numbered rows r) → IsIn (y, d) (numbered rows r) → onward after x c ≢ backward after y d
  never_both x y c d at there e =
      let same = one_pair x y c d (onward after x c) at there (onward_in_pair x c) (ap (has_dart (pair (y, d))) e ∙ backward_in_pair y d) in
      onward_twice c.edge x c.way after (e ∙ sym (ap (λ p. backward after p.0 p.1) same))

  -- ---- There are no other darts

  pair_is : (x : ℕ) (c d : Dart) → has_dart (pair (x, c)) d ≡ true → (d ≡ onward after x c) ⊎ (d ≡ backward after x c)
  pair_is x c d h = by_way c.way (elim (or_cases (same_dart d (ahead after c.edge x)) (has_dart (behind after c.edge x ∷ []) d) h) [
    | inl e ↦ inl (same_dart_true d (ahead after c.edge x) e)
    | inr k ↦ elim (or_cases (same_dart d (behind after c.edge x)) false k)
        [ inl e ↦ inr (same_dart_true d (behind after c.edge x) e) | inr none ↦ absurd (false≢true none) ]
  ]) where
    by_way : (w : Way) → (d ≡ ahead after c.edge x) ⊎ (d ≡ behind after c.edge x) → (d ≡ onward_by after x c.edge w)
        ⊎ (d ≡ onward_by after x c.edge (reversed w))
    by_way Forward h = h
    by_way Back (inl e) = inr e
    by_way Back (inr e) = inl e

  abbrev IsOneOf : Dart → Type 0
  IsOneOf d = ((d.edge ≡ rows.next_edge) × (d.seg ≤ length r.crossed))
      ⊎ (((c : Dart) × (has_dart (darts rows) c ≡ true) × (d ≡ lift c))
      ⊎ ((x : ℕ) × (c : Dart) × IsIn (x, c) (numbered rows r) × ((d ≡ onward after x c) ⊎ (d ≡ backward after x c))))

  in_pairs_is : (d : Dart) → has_dart pairs d ≡ true → (x : ℕ) × (c : Dart) × IsIn (x, c) (numbered rows r)
      × ((d ≡ onward after x c) ⊎ (d ≡ backward after x c))
  in_pairs_is d h = grind (arith, point_of, in_images, pair_is)

  -- a dart is of the new edge, or lifted, or stands at a new crossing
  pub one_of : (d : Dart) → has_dart (darts after) d ≡ true → IsOneOf d
  one_of d h = elim (cases_Bool (d.edge == rows.next_edge)) [
    | inl e ↦ let is_new = eqb-true d.edge rows.next_edge e in inl (is_new, newcomer_segment rows u v kind r good ask.once now d h is_new)
    | inr e ↦
        let kept = passing_has (is_kept rows u v kind r good ask now) (darts_in (system after)) d (ap not e)
        (system_test after now.paths now.crossings now.rotations d ∙ h) in
        let parts = sym (has_dart-append (map lift (darts_in (system rows))) pairs d)
        ∙ ap (λ ds. has_dart ds d) (sym (darts_without_new rows u v kind r good ask now)) ∙ kept in
        grind (arith, or_cases, image_of_dart, system_test, in_pairs_is)
  ]

  -- ---- Turns round old points

  same_lift : (c d : Dart) → has_dart (darts rows) c ≡ true → has_dart (darts rows) d ≡ true → same_dart (lift d) (lift c) ≡ same_dart d c
  same_lift c d h k = elim (cases_Bool (same_dart d c)) [
    | inl e ↦ ap (λ y. same_dart (lift d) (lift y)) (sym (same_dart_true d c e)) ∙ same_dart_self (lift d) ∙ sym e
    | inr e ↦ not_same (lift d) (lift c) (λ same. false≢true (sym e ∙ ap (same_dart d) (sym (lifts_apart d c k h same)) ∙ same_dart_self d)) ∙ sym e
  ]

  point_after : (around : List Dart) (d : Dart) → IsIn around (system after) → has_dart around d ≡ true → turn (system after) d ≡ next_around around d
  point_after = turn_at_point (system after) distinct_after

  -- round a point that the new edge does not end at
  turn_kept : (around lifted_around : List Dart) (d : Dart) → IsIn around (system rows) → IsIn lifted_around (system after) → lifted_around ≡ map lift around
      → has_dart around d ≡ true → turn (system after) (lift d) ≡ lift (turn (system rows) d)
  turn_kept around lifted_around d at there same h =
      let d_in = at_point_there rows u v kind r good ask now around at d h in
      point_after lifted_around (lift d) there (ap (λ ds. has_dart ds (lift d)) same ∙ has_image lift around d h)
      ∙ ap (λ ds. next_around ds (lift d)) same
      ∙ next_of_image lift d around (λ c k. same_lift c d (at_point_there rows u v kind r good ask now around at c k) d_in)
      ∙ ap lift (sym (turn_at_point (system rows) (distinct_system rows good.paths good.crossings good.rotations) around d at h))

  -- round an end of the new edge
  module _ (w p : ℕ) (new : Dart) (w_in : IsIn w (vertices rows)) (is_new : new.edge ≡ rows.next_edge) (point : IsEndPoint rows after w p new) where
    list_there : IsIn (around_vertex after w) (system after)
    list_there = vertex_point after w (subst (λ n. IsIn w (range_with_len 0 n)) (sym (shown_vertices rows u v kind r)) w_in)

    old_in_list : (c : Dart) → has_dart (point.head ∷ point.front ++ point.back) c ≡ true → has_dart (darts rows) c ≡ true
    old_in_list c h = at_point_there rows u v kind r good ask now (around_vertex rows w) (vertex_point rows w w_in) c (ap (λ ds. has_dart ds c) point.was ∙ h)

    not_lifted : (ds : List Dart) → ((c : Dart) → has_dart ds c ≡ true → has_dart (darts rows) c ≡ true) → has_dart (map lift ds) new ≡ false
    not_lifted ds old = grind (arith, cases_Bool, image_of_dart, old_apart, lifted_edge)

    front_old : (c : Dart) → has_dart (point.head ∷ point.front) c ≡ true → has_dart (darts rows) c ≡ true
    front_old c h = old_in_list c
        (has_dart-append (point.head ∷ point.front) point.back c ∙ or_left (has_dart (point.head ∷ point.front) c) (has_dart point.back c) h)

    -- the dart of the new edge turns to the corner's
    pub turn_of_end : turn (system after) new ≡ lift (slice_index_or point.back 0 point.head)
    turn_of_end =
        point_after (around_vertex after w) new list_there
        (ap (λ ds. has_dart ds new) point.now ∙ has_dart-append (map lift (point.head ∷ point.front)) (new ∷ map lift point.back) new
        ∙ or_right (has_dart (map lift (point.head ∷ point.front)) new) (has_dart (new ∷ map lift point.back) new) (has_first new (map lift point.back)))
        ∙ ap (λ ds. next_around ds new) point.now
        ∙ follower_new (lift point.head) new (map lift (point.head ∷ point.front)) (map lift point.back) (not_lifted (point.head ∷ point.front) front_old)
        ∙ get_or-map lift point.back 0 point.head

    -- as the corner names it
    pub turn_of_corner : (c : Dart) → corner rows w p ≡ Some c → turn (system after) new ≡ lift c
    turn_of_corner c at = grind (arith, turn_of_end)

    -- an old dart is followed as before, straight or after the new edge
    pub turn_at_end : (d : Dart) → has_dart (around_vertex rows w) d ≡ true → FollowsBut after rows.next_edge (lift d) (lift (turn (system rows) d))
    turn_at_end d h =
        let whole = point.head ∷ point.front ++ point.back in
        let there : has_dart whole d ≡ true = ap (λ ds. has_dart ds d) (sym point.was) ∙ h in
        let d_in = old_in_list d there in
        let was : turn (system rows) d ≡ next_around whole d =
        turn_at_point (system rows) (distinct_system rows good.paths good.crossings good.rotations) (around_vertex rows w) d (vertex_point rows w w_in) h
        ∙ ap (λ ds. next_around ds d) point.was in
        let lifted_next : follower (lift point.head) (map lift (point.head ∷ point.front) ++ map lift point.back) (lift d) ≡ lift (turn (system rows) d) =
        ap (λ ds. follower (lift point.head) ds (lift d)) (sym (map-append lift (point.head ∷ point.front) point.back))
        ∙ follower_of_image lift point.head d whole (λ c k. same_lift c d (old_in_list c k) d_in)
        ∙ ap lift (sym was) in
        let lift_there : has_dart (map lift (point.head ∷ point.front) ++ new ∷ map lift point.back) (lift d) ≡ true =
        has_dart-append (map lift (point.head ∷ point.front)) (new ∷ map lift point.back) (lift d)
        ∙ either_part (has_dart (map lift (point.head ∷ point.front)) (lift d)) (same_dart (lift d) new) (has_dart (map lift point.back) (lift d))
        (sym (has_dart-append (map lift (point.head ∷ point.front)) (map lift point.back) (lift d))
        ∙ ap (λ ds. has_dart ds (lift d)) (sym (map-append lift (point.head ∷ point.front) point.back)) ∙ has_image lift whole d there) in
        let turned = point_after (around_vertex after w) (lift d) list_there (ap (λ ds. has_dart ds (lift d)) point.now ∙ lift_there)
        ∙ ap (λ ds. next_around ds (lift d)) point.now in
        let not_new : same_dart (lift d) new ≡ false =
        not_same (lift d) new (λ e. old_apart d d_in (sym (lifted_edge rows after d) ∙ ap (λ (y : Dart). y.edge) e ∙ is_new)) in
        elim (follower_old (lift point.head) new (lift d) (map lift (point.head ∷ point.front))
        (map lift point.back) not_new (not_lifted (point.head ∷ point.front) front_old)) [
          | inl same ↦ inl (turned ∙ same ∙ lifted_next)
          | inr between ↦
              let by_new = turned ∙ between.0 in
              inr (
                ap (λ (y : Dart). y.edge) by_new ∙ is_new,
                ap (turn (system after)) by_new ∙ turn_of_end ∙ sym (get_or-map lift point.back 0 point.head) ∙ between.1 ∙ lifted_next,
              )
        ] where
          either_part : (a b c : Bool) → (a || c) ≡ true → (a || (b || c)) ≡ true
          either_part true b c h = refl
          either_part false b c h = or_right b c h

  -- each old dart is followed as before, but for the new edge
  pub turns_as_before : (d : Dart) → has_dart (darts rows) d ≡ true → FollowsBut after rows.next_edge (lift d) (lift (turn (system rows) d))
  turns_as_before d h =
      let point = point_of (system rows) d (stands_before d h) in
      elim (in_append point.0 (map (around_vertex rows) (vertices rows)) (map (around_crossing rows) rows.crossings) point.1) [
        | inl at_vertex ↦ let image = in_images (around_vertex rows) point.0 (vertices rows) at_vertex in
            by_vertex image.0 image.1 (ap (λ ds. has_dart ds d) (sym image.2) ∙ point.2)
        | inr at_crossing ↦ let image = in_images (around_crossing rows) point.0 rows.crossings at_crossing in
            by_crossing image.0 image.1 (ap (λ ds. has_dart ds d) (sym image.2) ∙ point.2)
      ] where
        by_crossing : (x : CrossRow) → IsIn x rows.crossings → has_dart (around_crossing rows x) d ≡ true
            → FollowsBut after rows.next_edge (lift d) (lift (turn (system rows) d))
        by_crossing x at k = inl (turn_kept (around_crossing rows x) (around_crossing after x) d (crossing_point rows x at)
            (crossing_point after x (in_left x rows.crossings (map (new_crossing rows.next_edge) (numbered rows r)) at)) (around_lifted rows after good x at) k)

        by_vertex : (w : ℕ) → IsIn w (vertices rows) → has_dart (around_vertex rows w) d ≡ true
            → FollowsBut after rows.next_edge (lift d) (lift (turn (system rows) d))
        by_vertex w at k = elim (cases_Bool (w == u)) [
          | inl e ↦ turn_at_end u r.start (forward rows.next_edge 0) (vertex_in rows u ask.u_there) refl (around_start rows u v kind r good ask now) d
              (ap (λ n. has_dart (around_vertex rows n) d) (sym (eqb-true w u e)) ∙ k)
          | inr not_u ↦ elim (cases_Bool (w == v)) [
            | inl e ↦ turn_at_end v r.end (back rows.next_edge (length r.crossed)) (vertex_in rows v ask.v_there) refl
                (around_finish rows u v kind r good ask now) d (ap (λ n. has_dart (around_vertex rows n) d) (sym (eqb-true w v e)) ∙ k)
            | inr not_v ↦ inl (turn_kept (around_vertex rows w) (around_vertex after w) d (vertex_point rows w at)
                (vertex_point after w (subst (λ n. IsIn w (range_with_len 0 n)) (sym (shown_vertices rows u v kind r)) at))
                (around_other rows u v kind r good ask now w at (λ e. false≢true (sym not_u ∙ eq-eqb w u e)) (λ e. false≢true (sym not_v ∙ eq-eqb w v e))) k)
          ]
        ]

  -- ---- Turns round a new crossing

  new_point : (x : ℕ) (d : Dart) → IsIn (x, d) (numbered rows r) → IsIn (around_crossing after (new_crossing rows.next_edge (x, d))) (system after)
  new_point x d at = crossing_point after (new_crossing rows.next_edge (x, d))
      (in_right (new_crossing rows.next_edge (x, d)) rows.crossings (map (new_crossing rows.next_edge) (numbered rows r))
      (in_map (new_crossing rows.next_edge) (x, d) (numbered rows r) at))

  -- round a new crossing: onward, the new edge ahead, backward, the new edge behind
  pub record RoundCrossing (x : ℕ) (d : Dart) : Type 0 where
    pub onward_next : turn (system after) (onward after x d) ≡ ahead after rows.next_edge x
    pub ahead_next : turn (system after) (ahead after rows.next_edge x) ≡ backward after x d
    pub backward_next : turn (system after) (backward after x d) ≡ behind after rows.next_edge x
    pub behind_next : turn (system after) (behind after rows.next_edge x) ≡ onward after x d

  edges_apart : (c d : Dart) → c.edge ≢ d.edge → same_dart c d ≡ false
  edges_apart c d apart = not_same c d (λ e. apart (ap (λ (y : Dart). y.edge) e))

  -- as the crossing's sign says
  pub round_crossing : (x : ℕ) (d : Dart) → IsIn (x, d) (numbered rows r) → RoundCrossing x d
  round_crossing x d at =
      let old = old_apart d (crossed_there rows u v kind r good ask now x d at) in
      by_way d.way old (λ y h. point_after (around_crossing after (new_crossing rows.next_edge (x, d))) y (new_point x d at) h) where
        by_way : (w : Way) → d.edge ≢ rows.next_edge
            → ((y : Dart) → has_dart (around_crossing after (new_crossing rows.next_edge (x, record { edge = d.edge; seg = d.seg; way = w }))) y ≡ true
            → turn (system after) y ≡ next_around (around_crossing after (new_crossing rows.next_edge (x, record { edge = d.edge; seg = d.seg; way = w }))) y)
            → RoundCrossing x (record { edge = d.edge; seg = d.seg; way = w })
        by_way Forward old turned =
            let a = ahead after d.edge x in
            let b = ahead after rows.next_edge x in
            let c = behind after d.edge x in
            let e = behind after rows.next_edge x in
            let b_not_a = edges_apart b a (λ k. old (sym k)) in
            let c_not_a = not_same c a (λ k. ways_apart _ _ _ _ (sym k)) in
            let c_not_b = edges_apart c b old in
            let e_not_a = edges_apart e a (λ k. old (sym k)) in
            let e_not_b = not_same e b (λ k. ways_apart _ _ _ _ (sym k)) in
            let e_not_c = edges_apart e c (λ k. old (sym k)) in
            record {
              onward_next = turned a (has_first a (b ∷ c ∷ e ∷ [])) ∙ first_of_four a b c e;
              ahead_next = turned b (has_second a b (c ∷ e ∷ [])) ∙ second_of_four a b c e b_not_a;
              backward_next = turned c (or_right (same_dart c a) (has_dart (b ∷ c ∷ e ∷ []) c) (has_second b c (e ∷ [])))
                  ∙ third_of_four a b c e c_not_a c_not_b;
              behind_next = turned e (or_right (same_dart e a) (has_dart (b ∷ c ∷ e ∷ []) e)
                  (or_right (same_dart e b) (has_dart (c ∷ e ∷ []) e) (has_second c e []))) ∙ last_of_four a b c e e_not_a e_not_b e_not_c;
            }
        by_way Back old turned =
            let a = ahead after d.edge x in
            let b = behind after rows.next_edge x in
            let c = behind after d.edge x in
            let e = ahead after rows.next_edge x in
            let b_not_a = edges_apart b a (λ k. old (sym k)) in
            let c_not_a = not_same c a (λ k. ways_apart _ _ _ _ (sym k)) in
            let c_not_b = edges_apart c b old in
            let e_not_a = edges_apart e a (λ k. old (sym k)) in
            let e_not_b = not_same e b (λ k. ways_apart _ _ _ _ k) in
            let e_not_c = edges_apart e c (λ k. old (sym k)) in
            record {
              onward_next = turned c (or_right (same_dart c a) (has_dart (b ∷ c ∷ e ∷ []) c) (has_second b c (e ∷ []))) ∙ third_of_four a b c e c_not_a c_not_b;
              ahead_next = turned e (or_right (same_dart e a) (has_dart (b ∷ c ∷ e ∷ []) e)
                  (or_right (same_dart e b) (has_dart (c ∷ e ∷ []) e) (has_second c e []))) ∙ last_of_four a b c e e_not_a e_not_b e_not_c;
              backward_next = turned a (has_first a (b ∷ c ∷ e ∷ [])) ∙ first_of_four a b c e;
              behind_next = turned b (has_second a b (c ∷ e ∷ [])) ∙ second_of_four a b c e b_not_a;
            }

  -- ---- The insertion

  -- all of it
  pub turns_shown : ShowsTurns rows rows.next_edge u v r after
  turns_shown = record {
    lifts = lifts;
    lifts_apart = lifts_apart;
    old_edges = old_apart;
    turns = turns_as_before;
    uncrossed = uncrossed_twins rows u v kind r good ask.once now;
    crossed_there = λ x d at. (pair_there x d (onward after x d) at (onward_in_pair x d), pair_there x d (backward after x d) at (backward_in_pair x d));
    before_crossing = λ x d at. (crossed_twins rows u v kind r good ask.once now x d at (crossed_there rows u v kind r good ask now x d at)).before;
    after_crossing = λ x d at. (crossed_twins rows u v kind r good ask.once now x d at (crossed_there rows u v kind r good ask now x d at)).behind_it;
    new_points = λ x d c at h. (no_lift x d c (onward after x d) at (onward_in_pair x d) h, no_lift x d c (backward after x d) at (backward_in_pair x d) h);
    onward_apart = onwards_apart;
    backward_apart = backwards_apart;
    not_both = never_both;
    newcomer = λ x d at.
        let place = place_on_newcomer rows u v kind r good ask.once now x d at in
        (ap (λ k. forward rows.next_edge (k + 1)) place, ap (back rows.next_edge) place);
    newcomer_there = newcomer_dart rows u v kind r good ask.once now;
    round_ahead = λ x d at. let round = round_crossing x d at in (round.onward_next, round.ahead_next);
    round_behind = λ x d at. let round = round_crossing x d at in (round.backward_next, round.behind_next);
    starts = turn_of_corner u r.start (forward rows.next_edge 0) (vertex_in rows u ask.u_there) refl (around_start rows u v kind r good ask now);
    ends = turn_of_corner v r.end (back rows.next_edge (length r.crossed)) (vertex_in rows v ask.v_there) refl (around_finish rows u v kind r good ask now);
    no_others = one_of;
  }

-- the picture that shows the new edge turns along the route as it should, and elsewhere as before
pub shows_turns : (rows : Rows) (u v kind : ℕ) (r : Route) → IsWellFormed rows → IsInsertable rows u v kind r → IsWellFormed (shown rows u v kind r)
    → ShowsTurns rows rows.next_edge u v r (shown rows u v kind r)
shows_turns = turns_shown
