-- The points of a picture once it shows a new edge along a route: the old ones have their darts, lifted, and those of the new edge.
use Rattle.std.proofs.Common.{arith, ◌≡◌, ◌≢◌, ℕ, ◌<◌, Bool, true, false, cond, List, [], ◌∷◌, ◌++◌}
use Rattle.std.proofs.Common.{length, not, refl, sym, ap, ap₂, append_assoc, subst, ◌∙◌, inl, inr}
use Rattle.std.specs.Prelude.{◌==◌, Some, filter, is_some, map, option_map, slice_get, slice_index_or}
use Rattle.std.specs.List.{range_with_len}
use Rattle.std.proofs.lemmas.List.{map-append}
use Rattle.std.proofs.Math.ListN.{get_or-map}
use Rattle.std.proofs.lemmas.Option.{slice_get-map}
use Rattle.std.proofs.lemmas.List.Concat.{flat_map-append}
use Rattle.std.proofs.lemmas.List.Elements.{filter-append}
use Rattle.std.proofs.lemmas.Simd.{map-map}
use Rattle.std.proofs.lemmas.Bool.{cases_Bool, eq-eqb, eqb-true, false≢true, ne_eqb, or_left, or_right}
use Rattle.topo_core.specs.declared.darts.Dart.{Dart}
use Rattle.topo_core.specs.declared.darts.Sign.{Sign}
use Rattle.topo_core.specs.declared.darts.Sign.TheVariants.{LeftToRight, RightToLeft}
use Rattle.topo_core.specs.declared.rows.CrossRow.{CrossRow}
use Rattle.topo_core.specs.declared.rows.Rows.{Rows}
use Rattle.topo_core.specs.declared.routes.Route.{Route}
use Rattle.topo_core.specs.Changes.{new_crossing, numbered, put_in, shown, sign_of}
use Rattle.topo_core.specs.Insertions.{IsInsertable, lifted}
use Rattle.topo_core.specs.Items.{IsIn}
use Rattle.topo_core.specs.Lawful.{IsWellFormed}
use Rattle.topo_core.specs.Picture.{ahead, around_crossing, around_vertex, behind, clockwise, darts, edge_row, end_dart, rotation, system, vertices}
use Rattle.topo_core.specs.Pictures.{back, forward}
use Rattle.topo_core.specs.Systems.{bypassed, darts_in, has_dart}
use Rattle.topo_core.proofs.numbering.Counting.{eqb_less}
use Rattle.topo_core.proofs.growing.Growing.{is_put_in, map_same}
use Rattle.topo_core.proofs.numbering.Members.{in_left, in_right}
use Rattle.topo_core.proofs.numbering.Numbering.{distinct_system}
use Rattle.topo_core.proofs.systems.Points.{at_point_in, distinct_passing, image_points, passing_points}
use Rattle.topo_core.proofs.routing.RouteDarts.{has_item}
use Rattle.topo_core.proofs.inserting.ShownForm.{each_of}
use Rattle.topo_core.proofs.inserting.ShownPlaces.{lifted_ahead, lifted_behind, lifted_edge, lifted_end, newcomer_end, on_path_of}
use Rattle.topo_core.proofs.inserting.ShownRows.{in_images, known_edge_below, numbered_in, shown_rotation_end}
use Rattle.topo_core.proofs.inserting.ShownRows.{shown_rotation_other, shown_rotation_start, shown_vertices}
use Rattle.topo_core.proofs.numbering.Standing.{good_crossing, good_rotation, listed_test, of_rows_is_dart, system_test}
use Rattle.topo_core.proofs.systems.SystemDarts.{crossing_point, eqb_self, vertex_in, vertex_point}
use Rattle.topo_core.proofs.systems.Turning.{IsDistinct}

-- ---- Lists under a test

all_pass : (keep : Dart → Bool) (ds : List Dart) → ((d : Dart) → IsIn d ds → keep d ≡ true) → filter keep ds ≡ ds
all_pass keep [] each = refl
all_pass keep (c ∷ ds) each =
    ap (λ (t : Bool). cond t (c ∷ filter keep ds) (filter keep ds)) (each c (inl refl))
    ∙ ap (λ list. c ∷ list) (all_pass keep ds (λ d h. each d (inr h)))

all_but_one : (keep : Dart → Bool) (xs ys : List Dart) (c : Dart) → keep c ≡ false → filter keep (xs ++ c ∷ ys) ≡ filter keep (xs ++ ys)
all_but_one keep xs ys c fails = grind (arith, filter-append)

two_pass : (keep : Dart → Bool) (sign : Sign) (a b c d : Dart) → keep a ≡ true → keep b ≡ true → keep c ≡ false → keep d ≡ false
    → filter keep (clockwise sign a b c d) ≡ a ∷ b ∷ []
two_pass keep LeftToRight a b c d a_is b_is c_is d_is = rw (a_is, b_is, c_is, d_is)
two_pass keep RightToLeft a b c d a_is b_is c_is d_is = rw (a_is, b_is, c_is, d_is)

image_of_clockwise : (g : Dart → Dart) (sign : Sign) (a b c d : Dart) → clockwise sign (g a) (g b) (g c) (g d) ≡ map g (clockwise sign a b c d)
image_of_clockwise g LeftToRight a b c d = refl
image_of_clockwise g RightToLeft a b c d = refl

-- ---- Round a crossing that two pictures have

-- in the second: the darts of the first, lifted
pub around_lifted : (p q : Rows) → IsWellFormed p → (x : CrossRow) → IsIn x p.crossings → around_crossing q x ≡ map (lifted p q) (around_crossing p x)
around_lifted p q good x h =
    let lift = lifted p q in
    let facts = good_crossing p good.crossings x h in
    let on_crossed = on_path_of p good x h x.crossed facts.crossed (or_left (x.crossed == x.crossed) (x.crossed == x.newcomer) (eqb_self x.crossed)) in
    let on_newcomer = on_path_of p good x h x.newcomer facts.newcomer (or_right (x.newcomer == x.crossed) (x.newcomer == x.newcomer) (eqb_self x.newcomer)) in
    grind (arith, lifted_ahead, lifted_behind, image_of_clockwise)

-- ---- An end of the new edge

-- round vertex w, where the new edge is put in at position p: the old darts, lifted, and the dart of the new edge before corner p
pub record IsEndPoint (rows after : Rows) (w p : ℕ) (new : Dart) : Type 0 where
  pub head : Dart
  pub front : List Dart
  pub back : List Dart
  pub was : around_vertex rows w ≡ head ∷ front ++ back
  pub now : around_vertex after w ≡ map (lifted rows after) (head ∷ front) ++ new ∷ map (lifted rows after) back
  pub corner : slice_get (around_vertex rows w) p ≡ Some (slice_index_or back 0 head)

-- ---- In the picture that shows the new edge

module _ (rows : Rows) (u v kind : ℕ) (r : Route) (good : IsWellFormed rows) (ask : IsInsertable rows u v kind r)
    (now : IsWellFormed (shown rows u v kind r)) where
  abbrev after : Rows
  after = shown rows u v kind r

  abbrev lift : Dart → Dart
  lift = lifted rows after

  -- the darts of the old edges
  abbrev pub is_kept : Dart → Bool
  is_kept d = not (d.edge == rows.next_edge)

  -- the edges of the old darts have lower ids
  pub old_edge_below : (d : Dart) → has_dart (darts rows) d ≡ true → d.edge < rows.next_edge
  old_edge_below d h = grind (arith, of_rows_is_dart, listed_test, known_edge_below)

  -- so their darts are kept
  pub old_is_kept : (d : Dart) → has_dart (darts rows) d ≡ true → is_kept (lift d) ≡ true
  old_is_kept d h = ap (λ e. not (e == rows.next_edge)) (lifted_edge rows after d) ∙ ap not (eqb_less d.edge rows.next_edge (old_edge_below d h))

  -- a dart round a point is one of the rows
  pub at_point_there : (around : List Dart) → IsIn around (system rows) → (d : Dart) → has_dart around d ≡ true → has_dart (darts rows) d ≡ true
  at_point_there around at d h = sym (system_test rows good.paths good.crossings good.rotations d) ∙ at_point_in (system rows) around d at h

  -- the lifted darts of a point are of old edges
  point_kept : (around : List Dart) → IsIn around (system rows) → filter is_kept (map lift around) ≡ map lift around
  point_kept around at = all_pass is_kept (map lift around) (λ d h.
      let image = in_images lift d around h in
      ap is_kept image.2 ∙ old_is_kept image.0 (at_point_there around at image.0 (has_item image.0 around image.1)))

  -- ---- Round the vertices

  lifted_ends : (w : ℕ) (es : List ℕ) → ((e : ℕ) → IsIn e es → is_some (edge_row rows e) ≡ true)
      → map (end_dart after w) es ≡ map lift (map (end_dart rows w) es)
  lifted_ends w es known =
      map_same (end_dart after w) (λ e. lift (end_dart rows w e)) es (λ e h. lifted_end rows u v kind r good ask.once now w e (known e h))
      ∙ sym (map-map lift (end_dart rows w) es)

  -- round a vertex that is no end of the new edge: the old darts, lifted
  pub around_other : (w : ℕ) → IsIn w (vertices rows) → w ≢ u → w ≢ v → around_vertex after w ≡ map lift (around_vertex rows w)
  around_other w h not_u not_v =
      ap (map (end_dart after w)) (shown_rotation_other rows u v kind r w not_u not_v)
      ∙ lifted_ends w (rotation rows w) (good_rotation rows good.rotations w h).known

  -- round one that is
  around_end : (w p : ℕ) (new : Dart) → IsIn w (vertices rows) → p < length (rotation rows w) → rotation after w ≡ put_in p rows.next_edge (rotation rows w)
      → end_dart after w rows.next_edge ≡ new → IsEndPoint rows after w p new
  around_end w p new h inside list end =
      let parts = is_put_in p rows.next_edge (rotation rows w) inside in
      let known : (e : ℕ) → IsIn e ((parts.head ∷ parts.front) ++ parts.back) → is_some (edge_row rows e) ≡ true =
      λ e k. (good_rotation rows good.rotations w h).known e (subst (IsIn e) (sym parts.was) k) in
      record {
        head = end_dart rows w parts.head;
        front = map (end_dart rows w) parts.front;
        back = map (end_dart rows w) parts.back;
        was = ap (map (end_dart rows w)) parts.was ∙ map-append (end_dart rows w) (parts.head ∷ parts.front) parts.back;
        now =
            ap (map (end_dart after w)) (list ∙ parts.now)
            ∙ map-append (end_dart after w) (parts.head ∷ parts.front) (rows.next_edge ∷ parts.back)
            ∙ ap (λ ds. ds ++ map (end_dart after w) (rows.next_edge ∷ parts.back))
            (lifted_ends w (parts.head ∷ parts.front) (λ e k. known e (in_left e (parts.head ∷ parts.front) parts.back k)))
            ∙ ap (λ d. map lift (map (end_dart rows w) (parts.head ∷ parts.front)) ++ d ∷ map (end_dart after w) parts.back) end
            ∙ ap (λ ds. map lift (map (end_dart rows w) (parts.head ∷ parts.front)) ++ new ∷ ds) (lifted_ends w parts.back
            (λ e k. known e (in_right e (parts.head ∷ parts.front) parts.back k)));
        corner =
            slice_get-map (end_dart rows w) (rotation rows w) p
            ∙ ap (option_map (end_dart rows w)) parts.corner
            ∙ ap Some (sym (get_or-map (end_dart rows w) parts.back 0 parts.head));
      }

  abbrev pub first_dart : Dart
  first_dart = forward rows.next_edge 0

  abbrev pub last_dart : Dart
  last_dart = back rows.next_edge (length r.crossed)

  -- round the two ends of the new edge
  pub around_start : IsEndPoint rows after u r.start first_dart
  around_start = around_end u r.start first_dart (vertex_in rows u ask.u_there) ask.start (shown_rotation_start rows u v kind r ask.u_there ask.ends_apart)
      (newcomer_end rows u v kind r good ask.once now u ∙ ap (λ (t : Bool). cond {A = Dart} t first_dart last_dart) (eqb_self u))

  pub around_finish : IsEndPoint rows after v r.end last_dart
  around_finish = around_end v r.end last_dart (vertex_in rows v ask.v_there) ask.end (shown_rotation_end rows u v kind r ask.v_there ask.ends_apart)
      (newcomer_end rows u v kind r good ask.once now v ∙ ap (λ (t : Bool). cond {A = Dart} t first_dart last_dart) (ne_eqb u v ask.ends_apart))

  new_not_kept : (d : Dart) → d.edge ≡ rows.next_edge → is_kept d ≡ false
  new_not_kept d e = ap (λ n. not (n == rows.next_edge)) e ∙ ap not (eqb_self rows.next_edge)

  end_kept : (w p : ℕ) (new : Dart) → IsIn w (vertices rows) → new.edge ≡ rows.next_edge → IsEndPoint rows after w p new
      → filter is_kept (around_vertex after w) ≡ map lift (around_vertex rows w)
  end_kept w p new h is_new point = grind (arith, all_but_one, new_not_kept, map-append, point_kept, vertex_point)

  -- without the new edge the darts round a vertex are the old ones, lifted
  vertex_kept : (w : ℕ) → IsIn w (vertices rows) → filter is_kept (around_vertex after w) ≡ map lift (around_vertex rows w)
  vertex_kept w h = elim (cases_Bool (w == u)) [
    | inl e ↦ subst (λ n. filter is_kept (around_vertex after n) ≡ map lift (around_vertex rows n)) (sym (eqb-true w u e))
        (end_kept u r.start first_dart (vertex_in rows u ask.u_there) refl around_start)
    | inr not_u ↦ elim (cases_Bool (w == v)) [
      | inl e ↦ subst (λ n. filter is_kept (around_vertex after n) ≡ map lift (around_vertex rows n)) (sym (eqb-true w v e))
          (end_kept v r.end last_dart (vertex_in rows v ask.v_there) refl around_finish)
      | inr not_v ↦
          ap (filter is_kept) (around_other w h (λ e. false≢true (sym not_u ∙ eq-eqb w u e)) (λ e. false≢true (sym not_v ∙ eq-eqb w v e)))
          ∙ point_kept (around_vertex rows w) (vertex_point rows w h)
    ]
  ]

  -- ---- Round the new crossings

  -- the darts of the crossed edge at a new crossing
  abbrev pub crossed_pair : ℕ × Dart → List Dart
  crossed_pair x = ahead after x.1.edge x.0 ∷ behind after x.1.edge x.0 ∷ []

  -- a crossed dart is one of the rows
  pub crossed_there : (x : ℕ) (d : Dart) → IsIn (x, d) (numbered rows r) → has_dart (darts rows) d ≡ true
  crossed_there x d h = each_of (λ d. has_dart (darts rows) d ≡ true) r.crossed ask.crossed d (numbered_in rows.next_crossing x d r.crossed h)

  pair_kept : (x : ℕ × Dart) → IsIn x (numbered rows r) → filter is_kept (around_crossing after (new_crossing rows.next_edge x)) ≡ crossed_pair x
  pair_kept x h =
      let old = ap not (eqb_less x.1.edge rows.next_edge (old_edge_below x.1 (crossed_there x.0 x.1 h))) in
      two_pass is_kept (sign_of x.1.way) (ahead after x.1.edge x.0) (behind after x.1.edge x.0) (ahead after rows.next_edge x.0)
      (behind after rows.next_edge x.0)
      old old (new_not_kept (ahead after rows.next_edge x.0) refl) (new_not_kept (behind after rows.next_edge x.0) refl)

  -- ---- All points

  -- without the new edge the points are the old ones, lifted, and the new crossings
  pub points_without_new : bypassed (λ d. d.edge == rows.next_edge) (system after) ≡ map (map lift) (system rows) ++ map crossed_pair (numbered rows r)
  points_without_new =
      let vertices_kept : map (filter is_kept) (map (around_vertex after) (vertices after)) ≡ map (map lift) (map (around_vertex rows) (vertices rows)) =
      ap (λ n. map (filter is_kept) (map (around_vertex after) (range_with_len 0 n))) (shown_vertices rows u v kind r)
      ∙ map-map (filter is_kept) (around_vertex after) (vertices rows)
      ∙ map_same (λ w. filter is_kept (around_vertex after w)) (λ w. map lift (around_vertex rows w)) (vertices rows) vertex_kept
      ∙ sym (map-map (map lift) (around_vertex rows) (vertices rows)) in
      let old_kept : map (filter is_kept) (map (around_crossing after) rows.crossings) ≡ map (map lift) (map (around_crossing rows) rows.crossings) =
      map-map (filter is_kept) (around_crossing after) rows.crossings
      ∙ map_same (λ x. filter is_kept (around_crossing after x)) (λ x. map lift (around_crossing rows x)) rows.crossings
      (λ x h. ap (filter is_kept) (around_lifted rows after good x h) ∙ point_kept (around_crossing rows x) (crossing_point rows x h))
      ∙ sym (map-map (map lift) (around_crossing rows) rows.crossings) in
      let new_kept : map (filter is_kept) (map (around_crossing after) (map (new_crossing rows.next_edge) (numbered rows r)))
      ≡ map crossed_pair (numbered rows r) =
      ap (map (filter is_kept)) (map-map (around_crossing after) (new_crossing rows.next_edge) (numbered rows r))
      ∙ map-map (filter is_kept) (λ x. around_crossing after (new_crossing rows.next_edge x)) (numbered rows r)
      ∙ map_same (λ x. filter is_kept (around_crossing after (new_crossing rows.next_edge x))) crossed_pair (numbered rows r) pair_kept in
      let crossings_kept : map (filter is_kept) (map (around_crossing after) after.crossings) ≡ map (map lift) (map (around_crossing rows) rows.crossings)
      ++ map crossed_pair (numbered rows r) =
      ap (map (filter is_kept)) (map-append (around_crossing after) rows.crossings (map (new_crossing rows.next_edge) (numbered rows r)))
      ∙ map-append (filter is_kept) (map (around_crossing after) rows.crossings)
      (map (around_crossing after) (map (new_crossing rows.next_edge) (numbered rows r)))
      ∙ ap₂ (λ s t. s ++ t) old_kept new_kept in
      map-append (filter is_kept) (map (around_vertex after) (vertices after)) (map (around_crossing after) after.crossings)
      ∙ ap₂ (λ s t. s ++ t) vertices_kept crossings_kept
      ∙ sym (append_assoc (map (map lift) (map (around_vertex rows) (vertices rows))) (map (map lift) (map (around_crossing rows) rows.crossings))
      (map crossed_pair (numbered rows r)))
      ∙ ap (λ s. s ++ map crossed_pair (numbered rows r))
      (sym (map-append (map lift) (map (around_vertex rows) (vertices rows)) (map (around_crossing rows) rows.crossings)))

  -- and so are their darts
  pub darts_without_new : filter is_kept (darts_in (system after)) ≡ map lift (darts_in (system rows)) ++ darts_in (map crossed_pair (numbered rows r))
  darts_without_new = grind (arith, passing_points, points_without_new, flat_map-append, image_points)

  -- none of them stands twice
  pub distinct_without_new : IsDistinct (map lift (darts_in (system rows)) ++ darts_in (map crossed_pair (numbered rows r)))
  distinct_without_new =
      subst IsDistinct darts_without_new (distinct_passing is_kept (darts_in (system after)) (distinct_system after now.paths now.crossings now.rotations))
