-- A picture that has kept a region: its faces and corners in the region are those of the picture before.
use Rattle.std.proofs.Common.{◌≡◌, ℕ, zero, suc, ◌+◌, ◌&&◌, ◌<◌, ◌≤◌, Bool, true, false, cond, ◌||◌, List}
use Rattle.std.proofs.Common.{[], ◌∷◌, length, Some, None, inl, inr, refl, sym, ap, subst, ◌∙◌, arith}
use Rattle.std.specs.Prelude.{◌⊎◌, ◌==◌, Option, map, option_map, slice_get, slice_index_or, unwrap_or}
use Rattle.std.proofs.Math.ListN.{get_or-map}
use Rattle.std.proofs.lemmas.Bool.{cases_Bool, eqb-true, or_cases, or_left}
use Rattle.std.proofs.lemmas.Iterator.Adapters.{option_map_id}
use Rattle.std.proofs.lemmas.Option.{slice_get-map}
use Rattle.topo_core.specs.declared.darts.Dart.{Dart}
use Rattle.topo_core.specs.declared.darts.Sign.{Sign}
use Rattle.topo_core.specs.declared.darts.Sign.TheVariants.{LeftToRight, RightToLeft}
use Rattle.topo_core.specs.declared.darts.Way.TheVariants.{Forward, Back}
use Rattle.topo_core.specs.declared.rows.CrossRow.{CrossRow}
use Rattle.topo_core.specs.declared.rows.EdgeRow.{EdgeRow}
use Rattle.topo_core.specs.declared.rows.Rows.{Rows}
use Rattle.std.specs.List.{list_all, position_or_len}
use Rattle.topo_core.specs.Darts.{dart_twin, same_dart, same_way}
use Rattle.topo_core.specs.Items.{IsIn, occurrences}
use Rattle.topo_core.specs.Lawful.{IsWellFormed, Lawful, is_good_crossing}
use Rattle.topo_core.specs.Picture.{ahead, around_crossing, around_vertex, behind, clockwise, corner}
use Rattle.topo_core.specs.Picture.{cross_row, darts, edge_at, edge_row, end_dart, rotation, system, vertices}
use Rattle.topo_core.specs.Systems.{System, darts_in, face_step, follower, has_dart, turn}
use Rattle.topo_core.proofs.Interface.{IsDistinct, counted_in, crossing_point, distinct_left, distinct_right, distinct_system, edge_at_row, end_dart_edge, eqb_self, find_by_id, found, good_rotation}
use Rattle.topo_core.proofs.Interface.{has_item, in_append, in_images, in_map, is_dart_of_rows, left_true, listed_test, next_around, next_of_four, of_rows_is_dart, on_path_of, one, point_of, row_id}
use Rattle.topo_core.proofs.Interface.{row_in, same_dart_self, same_dart_true, some_of, system_test, turn_at_point, twin_in, vertex_in, vertex_point}
use Rattle.topo_route.specs.Regions.{IsKept, IsRegionOf, RegionState, holds_edge, holds_vertex}
use Rattle.topo_route.specs.Surviving.{IsRegion, KeepsEnds, KeepsFaces, unmoved}

-- ---- Darts of the edges in a list

-- what follows e in the list, where `first` follows the last
abbrev following : ℕ → List ℕ → ℕ → ℕ
following first [] e = first
following first (c ∷ cs) e = cond {A = ℕ} (e == c) (slice_index_or cs 0 first) (following first cs e)

other_edge : (c d : Dart) → (c.edge == d.edge) ≡ false → same_dart c d ≡ false
other_edge c d apart = ap (λ t. t && c.seg == d.seg && same_way c.way d.way) apart

-- a dart of the list is that of its own edge
own_edge : (h : ℕ → Dart) → ((e : ℕ) → (h e).edge ≡ e) → (d : Dart) (e : ℕ) → h d.edge ≡ d → same_dart d (h e) ≡ (d.edge == e)
own_edge h edges d e is = elim (cases_Bool (d.edge == e)) [
  | inl same ↦ ap (λ n. same_dart d (h n)) (sym (eqb-true d.edge e same)) ∙ ap (same_dart d) is ∙ same_dart_self d ∙ sym same
  | inr apart ↦ other_edge d (h e) (ap (λ n. d.edge == n) (edges e) ∙ apart) ∙ sym apart
]

follower_by_edge : (h : ℕ → Dart) → ((e : ℕ) → (h e).edge ≡ e) → (first : ℕ) (es : List ℕ) (d : Dart) → h d.edge ≡ d
    → follower (h first) (map h es) d ≡ h (following first es d.edge)
follower_by_edge h edges first [] d is = refl
follower_by_edge h edges first (e ∷ es) d is =
    ap (λ (t : Bool). cond t (slice_index_or (map h es) 0 (h first)) (follower (h first) (map h es) d)) (own_edge h edges d e is)
    ∙ ap (λ (y : Dart). cond (d.edge == e) y (follower (h first) (map h es) d)) (get_or-map h es 0 first)
    ∙ ap (λ (y : Dart). cond (d.edge == e) (h (slice_index_or es 0 first)) y) (follower_by_edge h edges first es d is)
    ∙ by_test (d.edge == e) where
      by_test : (t : Bool)
          → cond t (h (slice_index_or es 0 first)) (h (following first es d.edge)) ≡ h (cond {A = ℕ} t (slice_index_or es 0 first) (following first es d.edge))
      by_test true = refl
      by_test false = refl

-- so it is with what comes next round the point
next_by_edge : (h : ℕ → Dart) → ((e : ℕ) → (h e).edge ≡ e) → (es : List ℕ) (d : Dart) → h d.edge ≡ d
    → next_around (map h es) d ≡ h (following (slice_index_or es 0 d.edge) es d.edge)
next_by_edge h edges es d is =
    ap (λ c. follower (slice_index_or (map h es) 0 c) (map h es) d) (sym is)
    ∙ ap (λ c. follower c (map h es) d) (get_or-map h es 0 d.edge)
    ∙ follower_by_edge h edges (slice_index_or es 0 d.edge) es d is

-- where two maps agree at d and at what comes next, the same dart comes next
next_agrees : (g h : ℕ → Dart) → ((e : ℕ) → (g e).edge ≡ e) → ((e : ℕ) → (h e).edge ≡ e) → (es : List ℕ) {d next : Dart} → h d.edge ≡ d → g d.edge ≡ d
    → next_around (map h es) d ≡ next → g next.edge ≡ h next.edge → next_around (map g es) d ≡ next
next_agrees g h g_edges h_edges es {d} {next} is_h is_g leads agree =
    let n = following (slice_index_or es 0 d.edge) es d.edge in
    let home : h n ≡ next = sym (next_by_edge h h_edges es d is_h) ∙ leads in
    let edge : next.edge ≡ n = ap (λ (c : Dart). c.edge) (sym home) ∙ h_edges n in
    next_by_edge g g_edges es d is_g ∙ ap g (sym edge) ∙ agree ∙ ap h edge ∙ home

-- a dart that is in the list is an item
in_by_test : (d : Dart) (ds : List Dart) → has_dart ds d ≡ true → IsIn d ds
in_by_test d [] h = cc
in_by_test d (c ∷ ds) h = elim (or_cases (same_dart d c) (has_dart ds d) h) [
  | inl e ↦ inl (same_dart_true d c e)
  | inr k ↦ inr (in_by_test d ds k)
]

-- ---- Darts round a crossing

-- what holds of each of four darts
of_four : (P : Dart → Type 0) {a b c d t : Dart} → IsIn t (a ∷ b ∷ c ∷ d ∷ []) → P a → P b → P c → P d → P t
of_four P (inl e) pa pb pc pd = subst P (sym e) pa
of_four P (inr (inl e)) pa pb pc pd = subst P (sym e) pb
of_four P (inr (inr (inl e))) pa pb pc pd = subst P (sym e) pc
of_four P (inr (inr (inr (inl e)))) pa pb pc pd = subst P (sym e) pd
of_four P (inr (inr (inr (inr none)))) pa pb pc pd = absurd none

-- t is of one of the two edges, and the next dart of the other
abbrev Alternates : List Dart → ℕ → ℕ → Dart → Type 0
Alternates around a b t = ((t.edge ≡ a) × ((next_around around t).edge ≡ b)) ⊎ ((t.edge ≡ b) × ((next_around around t).edge ≡ a))

edges_alternate : {c n d m t : Dart} {a b : ℕ} → IsDistinct (c ∷ n ∷ d ∷ m ∷ []) → IsIn t (c ∷ n ∷ d ∷ m ∷ []) → c.edge ≡ a → d.edge ≡ a → n.edge ≡ b
    → m.edge ≡ b → Alternates (c ∷ n ∷ d ∷ m ∷ []) a b t
edges_alternate {c} {n} {d} {m} {a} {b} distinct there c_is d_is n_is m_is =
    let four = next_of_four c n d m distinct in
    of_four (Alternates (c ∷ n ∷ d ∷ m ∷ []) a b) there
    (inl (c_is, ap (λ (x : Dart). x.edge) four.first ∙ n_is))
    (inr (n_is, ap (λ (x : Dart). x.edge) four.second ∙ d_is))
    (inl (d_is, ap (λ (x : Dart). x.edge) four.third ∙ m_is))
    (inr (m_is, ap (λ (x : Dart). x.edge) four.last ∙ c_is))

crossing_alternates : (rows : Rows) (x : CrossRow) (t : Dart) → IsDistinct (around_crossing rows x) → IsIn t (around_crossing rows x)
    → Alternates (around_crossing rows x) x.crossed x.newcomer t
crossing_alternates rows x t = by_sign x.sign where
  by_sign : (sign : Sign)
      → IsDistinct (clockwise sign (ahead rows x.crossed x.id) (behind rows x.crossed x.id) (ahead rows x.newcomer x.id) (behind rows x.newcomer x.id))
      → IsIn t (clockwise sign (ahead rows x.crossed x.id) (behind rows x.crossed x.id) (ahead rows x.newcomer x.id) (behind rows x.newcomer x.id))
      → Alternates (clockwise sign (ahead rows x.crossed x.id) (behind rows x.crossed x.id) (ahead rows x.newcomer x.id) (behind rows x.newcomer x.id))
      x.crossed x.newcomer t
  by_sign LeftToRight distinct there = edges_alternate distinct there refl refl refl refl
  by_sign RightToLeft distinct there = edges_alternate distinct there refl refl refl refl

of_count : (b : Bool) (n : ℕ) → n ≡ one b → 1 ≤ n → b ≡ true
of_count true n e h = refl
of_count false n e h = absurd (omega arith)

-- an edge round a vertex has an end there
pub end_of : (rows : Rows) → IsWellFormed rows → (w e : ℕ) (row : EdgeRow) → IsIn w (vertices rows) → edge_row rows e ≡ Some row → IsIn e (rotation rows w)
    → (row.a ≡ w) ⊎ (row.b ≡ w)
end_of rows good w e row w_in at e_in =
    let counted = (good_rotation rows good.rotations w w_in).counted row (row_in rows e row at) in
    let ends = of_count (row.a == w || row.b == w) (occurrences e (rotation rows w))
    (ap (λ n. occurrences n (rotation rows w)) (sym (row_id rows e row at)) ∙ counted) (counted_in e (rotation rows w) e_in) in
    elim (or_cases (row.a == w) (row.b == w) ends) [
      | inl same ↦ inl (eqb-true row.a w same)
      | inr same ↦ inr (eqb-true row.b w same)
    ]

-- a list with an item is the list of a vertex
pub vertex_of_item : (lists : List (List ℕ)) (w e : ℕ) → IsIn e (slice_index_or lists w []) → w < length lists
vertex_of_item [] w e h = absurd h
vertex_of_item (list ∷ lists) zero e h = omega arith
vertex_of_item (list ∷ lists) (suc w) e h = let rest = vertex_of_item lists w e h in omega arith

-- each point of a system is that of a vertex or of a crossing
point_is : (rows : Rows) (around : List Dart) → IsIn around (system rows)
    → ((w : ℕ) × IsIn w (vertices rows) × (around ≡ around_vertex rows w)) ⊎ ((x : CrossRow) × IsIn x rows.crossings × (around ≡ around_crossing rows x))
point_is rows around h = elim (in_append around (map (around_vertex rows) (vertices rows)) (map (around_crossing rows) rows.crossings) h) [
  | inl k ↦ inl (in_images (around_vertex rows) around (vertices rows) k)
  | inr k ↦ inr (in_images (around_crossing rows) around rows.crossings k)
]

-- a point of a system in which no dart stands twice
distinct_point : (s : System) → IsDistinct (darts_in s) → (around : List Dart) → IsIn around s → IsDistinct around
distinct_point [] distinct around h = absurd h
distinct_point (first ∷ s) distinct around (inl e) = subst IsDistinct (sym e) (distinct_left first (darts_in s) distinct)
distinct_point (first ∷ s) distinct around (inr k) = distinct_point s (distinct_right first (darts_in s) distinct) around k

-- ---- Rows that are kept

module _ (before now : Rows) (region : RegionState) (kept : IsKept before now region) where
  pub same_row : (e : ℕ) → holds_edge region e ≡ true → edge_at now e ≡ edge_at before e
  same_row e h = ap (λ (o : Option EdgeRow). unwrap_or o (record { id = e; a = 0; b = 0; kind = 0; crossings = [] })) (kept.edges e h)

  -- the dart at an end of an edge
  same_end : (w e : ℕ) → holds_edge region e ≡ true → end_dart now w e ≡ end_dart before w e
  same_end w e h = ap (λ (row : EdgeRow). cond {A = Dart} (row.a == w) (record { edge = e; seg = 0; way = Forward })
      (record { edge = e; seg = length row.crossings; way = Back })) (same_row e h)

  -- and those at a crossing
  same_crossing : (x : CrossRow) → holds_edge region x.crossed ≡ true → holds_edge region x.newcomer ≡ true → around_crossing now x ≡ around_crossing before x
  same_crossing x h l =
      let first = ap (λ (row : EdgeRow). position_or_len (λ y. y == x.id) row.crossings) (same_row x.crossed h) in
      let second = ap (λ (row : EdgeRow). position_or_len (λ y. y == x.id) row.crossings) (same_row x.newcomer l) in
      ap (λ n. clockwise x.sign (record { edge = x.crossed; seg = n + 1; way = Forward }) (record { edge = x.crossed; seg = n; way = Back })
      (ahead now x.newcomer x.id) (behind now x.newcomer x.id)) first
      ∙ ap (λ n. clockwise x.sign (ahead before x.crossed x.id) (behind before x.crossed x.id) (record { edge = x.newcomer; seg = n + 1; way = Forward })
      (record { edge = x.newcomer; seg = n; way = Back })) second

  module _ (good : IsWellFormed before) (good_now : IsWellFormed now) (of_before : IsRegionOf before region) where
    distinct_before : IsDistinct (darts_in (system before))
    distinct_before = distinct_system before good.paths good.crossings good.rotations

    distinct_now : IsDistinct (darts_in (system now))
    distinct_now = distinct_system now good_now.paths good_now.crossings good_now.rotations

    -- ---- Turns that are kept

    -- the region holds a vertex with one of its edges
    vertex_held : (w e : ℕ) → IsIn w (vertices before) → IsIn e (rotation before w) → holds_edge region e ≡ true → holds_vertex region w ≡ true
    vertex_held w e w_in e_in h =
        let (row, at) = some_of (edge_row before e) (of_before.there e h) in
        let is = edge_at_row before e row at in
        elim (end_of before good w e row w_in at e_in) [
          | inl same ↦ subst (λ n. holds_vertex region n ≡ true) (ap (λ (r : EdgeRow). r.a) is ∙ same) (of_before.a_held e h)
          | inr same ↦ subst (λ n. holds_vertex region n ≡ true) (ap (λ (r : EdgeRow). r.b) is ∙ same) (of_before.b_held e h)
        ]

    turn_at_vertex : (w : ℕ) (t next : Dart) → IsIn w (vertices before) → has_dart (around_vertex before w) t ≡ true → turn (system before) t ≡ next
        → holds_edge region t.edge ≡ true → holds_edge region next.edge ≡ true → turn (system now) t ≡ next
    turn_at_vertex w t next w_in at leads h l =
        let es = rotation before w in
        let image = in_images (end_dart before w) t es (in_by_test t (around_vertex before w) at) in
        let e = image.0 in
        let edge : t.edge ≡ e = ap (λ (c : Dart). c.edge) image.2 ∙ end_dart_edge before w e in
        let held : holds_edge region e ≡ true = subst (λ n. holds_edge region n ≡ true) edge h in
        let same : rotation now w ≡ es = kept.rotations w (vertex_held w e w_in image.1 held) in
        let e_in : IsIn e (rotation now w) = subst (IsIn e) (sym same) image.1 in
        let w_now : IsIn w (vertices now) = vertex_in now w (vertex_of_item now.rotations w e e_in) in
        let t_now : t ≡ end_dart now w e = image.2 ∙ sym (same_end w e held) in
        let there : has_dart (around_vertex now w) t ≡ true =
        has_item t (around_vertex now w) (subst (λ c. IsIn c (around_vertex now w)) (sym t_now) (in_map (end_dart now w) e (rotation now w) e_in)) in
        let old : next_around (map (end_dart before w) es) t ≡ next =
        sym (turn_at_point (system before) distinct_before (around_vertex before w) t (vertex_point before w w_in) at) ∙ leads in
        turn_at_point (system now) distinct_now (around_vertex now w) t (vertex_point now w w_now) there
        ∙ ap (λ list. next_around (map (end_dart now w) list) t) same
        ∙ next_agrees (end_dart now w) (end_dart before w) (end_dart_edge now w) (end_dart_edge before w) es
        (ap (end_dart before w) edge ∙ sym image.2) (ap (end_dart now w) edge ∙ sym t_now) old (same_end w next.edge l)

    -- both edges of a crossing where two darts of the region follow each other
    both_held : (x : CrossRow) (t next : Dart) → IsIn x before.crossings → has_dart (around_crossing before x) t ≡ true
        → next_around (around_crossing before x) t ≡ next
        → holds_edge region t.edge ≡ true → holds_edge region next.edge ≡ true → (holds_edge region x.crossed ≡ true) × (holds_edge region x.newcomer ≡ true)
    both_held x t next x_in at leads h l =
        let distinct = distinct_point (system before) distinct_before (around_crossing before x) (crossing_point before x x_in) in
        let after : holds_edge region (next_around (around_crossing before x) t).edge ≡ true = ap (λ (c : Dart). holds_edge region c.edge) leads ∙ l in
        elim (crossing_alternates before x t distinct (in_by_test t (around_crossing before x) at)) [
          | inl e ↦ (ap (holds_edge region) (sym e.0) ∙ h, ap (holds_edge region) (sym e.1) ∙ after)
          | inr e ↦ (ap (holds_edge region) (sym e.1) ∙ after, ap (holds_edge region) (sym e.0) ∙ h)
        ]

    -- a crossing of two edges of the region is there
    crossing_now : (x : CrossRow) → IsIn x before.crossings → holds_edge region x.crossed ≡ true → IsIn x now.crossings
    crossing_now x x_in h =
        let on_path = on_path_of before good x x_in x.crossed (of_before.there x.crossed h)
        (or_left (x.crossed == x.crossed) (x.crossed == x.newcomer) (eqb_self x.crossed)) in
        let old : cross_row before x.id ≡ Some x = find_by_id (λ x. x.id) before.next_crossing before.crossings
        (left_true _ (list_all (is_good_crossing before) before.crossings) good.crossings) x x_in in
        (found (λ row. row.id == x.id) x now.crossings (kept.crossings x.crossed x.id h on_path ∙ old)).0

    turn_at_crossing : (x : CrossRow) (t next : Dart) → IsIn x before.crossings → has_dart (around_crossing before x) t ≡ true → turn (system before) t ≡ next
        → holds_edge region t.edge ≡ true → holds_edge region next.edge ≡ true → turn (system now) t ≡ next
    turn_at_crossing x t next x_in at leads h l =
        let old : next_around (around_crossing before x) t ≡ next =
        sym (turn_at_point (system before) distinct_before (around_crossing before x) t (crossing_point before x x_in) at) ∙ leads in
        let both = both_held x t next x_in at old h l in
        let same = same_crossing x both.0 both.1 in
        turn_at_point (system now) distinct_now (around_crossing now x) t (crossing_point now x (crossing_now x x_in both.0))
        (ap (λ ds. has_dart ds t) same ∙ at)
        ∙ ap (λ ds. next_around ds t) same ∙ old

    -- where a dart of the region turns to another one, it still does
    same_turn : (t : Dart) → has_dart (darts before) t ≡ true → holds_edge region t.edge ≡ true → holds_edge region (turn (system before) t).edge ≡ true
        → turn (system now) t ≡ turn (system before) t
    same_turn t there h l =
        let point = point_of (system before) t (system_test before good.paths good.crossings good.rotations t ∙ there) in
        elim (point_is before point.0 point.1) [
          | inl (w, w_in, is) ↦ turn_at_vertex w t (turn (system before) t) w_in (ap (λ ds. has_dart ds t) (sym is) ∙ point.2) refl h l
          | inr (x, x_in, is) ↦ turn_at_crossing x t (turn (system before) t) x_in (ap (λ ds. has_dart ds t) (sym is) ∙ point.2) refl h l
        ]

    -- a dart of the region is there
    dart_now : (d : Dart) → has_dart (darts before) d ≡ true → holds_edge region d.edge ≡ true → has_dart (darts now) d ≡ true
    dart_now d there h =
        let (row, at, inside) = of_rows_is_dart before d (sym (listed_test before good.paths d) ∙ there) in
        listed_test now good_now.paths d ∙ is_dart_of_rows now d (row, kept.edges d.edge h ∙ at, inside)

-- ---- Faces and corners

-- whole faces whose edges the region holds are still there
pub kept_faces : (before now : Rows) (region : RegionState) (inside : Dart → Bool) → Lawful before → Lawful now → IsRegionOf before region
    → IsKept before now region
    → IsRegion before inside → ((d : Dart) → inside d ≡ true → holds_edge region d.edge ≡ true) → KeepsFaces before now (unmoved inside)
kept_faces before now region inside lawful lawful_now of_before kept faces held = record {
  of_before = faces.of_rows;
  of_after = λ d h. dart_now before now region kept lawful.embedding.well_formed lawful_now.embedding.well_formed of_before d (faces.of_rows d h) (held d h);
  there = λ d h. (h, refl);
  here = λ e h. (h, refl);
  round = faces.round;
  step = λ d h. same_turn before now region kept lawful.embedding.well_formed lawful_now.embedding.well_formed of_before (dart_twin d)
      (twin_in before d (faces.of_rows d h)) (held d h) (held (face_step (system before) d) (faces.round d h));
  twin_kept = λ d h. refl;
  twin_moves = λ d h l. refl;
  order = λ c d h l. refl;
  edge = λ d h. refl;
  same_edge = λ d h.
      let same = same_row before now region kept d.edge (held d h) in
      record {
        id = ap (λ (r : EdgeRow). r.id) same;
        a = ap (λ (r : EdgeRow). r.a) same;
        b = ap (λ (r : EdgeRow). r.b) same;
        kind = ap (λ (r : EdgeRow). r.kind) same;
      };
}

-- a corner inside is where it was
pub kept_corner : {before now : Rows} {region : RegionState} {inside : Dart → Bool} (w q : ℕ) → IsKept before now region
    → ((d : Dart) → inside d ≡ true → holds_edge region d.edge ≡ true) → holds_vertex region w ≡ true
    → ((c : Dart) → corner before w q ≡ Some c → inside c ≡ true) → corner now w q ≡ corner before w q
kept_corner {before} {now} {region} {inside} w q kept held at_w corners =
    slice_get-map (end_dart now w) (rotation now w) q
    ∙ ap (λ es. option_map (end_dart now w) (slice_get es q)) (kept.rotations w at_w)
    ∙ by_entry (slice_get (rotation before w) q) (λ c e. corners c (slice_get-map (end_dart before w) (rotation before w) q ∙ e))
    ∙ sym (slice_get-map (end_dart before w) (rotation before w) q) where
      by_entry : (o : Option ℕ) → ((c : Dart) → option_map (end_dart before w) o ≡ Some c → inside c ≡ true)
          → option_map (end_dart now w) o ≡ option_map (end_dart before w) o
      by_entry None is_inside = refl
      by_entry (Some e) is_inside =
          ap (λ (c : Dart). Some c) (same_end before now region kept w e
          (ap (holds_edge region) (sym (end_dart_edge before w e)) ∙ held (end_dart before w e) (is_inside (end_dart before w e) refl)))

-- a corner of a dart inside was there before
corner_before : {before now : Rows} {region : RegionState} {inside : Dart → Bool} (w q : ℕ) {c : Dart} → IsKept before now region
    → ((d : Dart) → inside d ≡ true → holds_edge region d.edge ≡ true) → holds_vertex region w ≡ true → corner now w q ≡ Some c → inside c ≡ true
    → corner before w q ≡ Some c
corner_before {before} {now} {region} w q {c} kept held at_w at h =
    slice_get-map (end_dart before w) (rotation before w) q
    ∙ by_entry (slice_get (rotation before w) q)
    (sym (slice_get-map (end_dart now w) (rotation now w) q ∙ ap (λ es. option_map (end_dart now w) (slice_get es q)) (kept.rotations w at_w)) ∙ at) where
      by_entry : (o : Option ℕ) → option_map (end_dart now w) o ≡ Some c → option_map (end_dart before w) o ≡ Some c
      by_entry None e = cc
      by_entry (Some e) is =
          let same : end_dart now w e ≡ c = cc in
          let edge : c.edge ≡ e = ap (λ (x : Dart). x.edge) (sym same) ∙ end_dart_edge now w e in
          ap (λ (x : Dart). Some x) (sym (same_end before now region kept w e (ap (holds_edge region) (sym edge) ∙ held c h)) ∙ same)

-- and so are all corners of a vertex, where all of them are inside
pub kept_corners : {before now : Rows} {region : RegionState} {inside : Dart → Bool} (w : ℕ) → IsKept before now region
    → ((d : Dart) → inside d ≡ true → holds_edge region d.edge ≡ true) → holds_vertex region w ≡ true
    → ((q : ℕ) (c : Dart) → corner before w q ≡ Some c → inside c ≡ true) → (q : ℕ) → corner now w q ≡ corner before w q
kept_corners w kept held at_w corners q = kept_corner w q kept held at_w (corners q)

-- the corners of v, and those of u as far as the start
pub kept_ends_to_start : {before now : Rows} {region : RegionState} {inside : Dart → Bool} (u v start : ℕ) → IsKept before now region
    → ((d : Dart) → inside d ≡ true → holds_edge region d.edge ≡ true) → holds_vertex region u ≡ true → holds_vertex region v ≡ true
    → ((q : ℕ) (c : Dart) → q ≤ start → corner before u q ≡ Some c → inside c ≡ true) → ((q : ℕ) (c : Dart) → corner before v q ≡ Some c → inside c ≡ true)
    → KeepsEnds before now (unmoved inside) u v start
kept_ends_to_start {before} u v start kept held at_u at_v starts target = record {
  target = λ q. kept_corner v q kept held at_v (target q) ∙ sym (option_map_id (corner before v q));
  starts = λ q low. kept_corner u q kept held at_u (λ c at. starts q c low at) ∙ sym (option_map_id (corner before u q));
  behind = λ q c at h. (q, corner_before u q kept held at_u at h);
}

-- the corners of both
pub kept_ends : {before now : Rows} {region : RegionState} {inside : Dart → Bool} (u v start : ℕ) → IsKept before now region
    → ((d : Dart) → inside d ≡ true → holds_edge region d.edge ≡ true) → holds_vertex region u ≡ true → holds_vertex region v ≡ true
    → ((q : ℕ) (c : Dart) → corner before u q ≡ Some c → inside c ≡ true) → ((q : ℕ) (c : Dart) → corner before v q ≡ Some c → inside c ≡ true)
    → KeepsEnds before now (unmoved inside) u v start
kept_ends u v start kept held at_u at_v starts target = kept_ends_to_start u v start kept held at_u at_v (λ q c low at. starts q c at) target
