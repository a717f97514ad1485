-- Calls that spare a region leave it as it was.
use Rattle.std.proofs.Common.{◌≡◌, ◌≢◌, ℕ, suc, ◌+◌, ◌<◌, ◌≤◌, Bool, true, false, not, ◌&&◌, ◌||◌, List, [], ◌∷◌, ◌++◌}
use Rattle.std.proofs.Common.{length, get_or, get_or-set_other, Some, inl, inr, refl, sym, ap, subst, ◌∙◌, arith}
use Rattle.std.specs.Prelude.{◌==◌, All, IfSome, Option, is_some, map, nat_le}
use Rattle.std.specs.List.{list_all}
use Rattle.std.proofs.Math.ListN.{get_or-append, length-set}
use Rattle.std.proofs.lemmas.Bool.Decides.{nat_tests}
use Rattle.std.proofs.lemmas.Bool.{cases_Bool, eq-eqb, eqb-true, false≢true, or_left, or_right}
use Rattle.topo_core.specs.declared.calls.Call.{Call}
use Rattle.topo_core.specs.declared.calls.Call.TheVariants.{Grow, Insert, Delete}
use Rattle.topo_core.specs.declared.calls.Reply.{Reply}
use Rattle.topo_core.specs.declared.calls.Reply.TheVariants.{Grown, Inserted as Put, Deleted, Refused}
use Rattle.topo_core.specs.declared.darts.Dart.{Dart}
use Rattle.topo_core.specs.declared.limits.Limits.{Limits}
use Rattle.topo_core.specs.declared.routes.Route.{Route}
use Rattle.topo_core.specs.declared.rows.CrossRow.{CrossRow}
use Rattle.topo_core.specs.declared.rows.EdgeRow.{EdgeRow}
use Rattle.topo_core.specs.declared.rows.Rows.{Rows}
use Rattle.topo_core.specs.Changes.{crossed_row, from_least, grown, new_crossing, new_on, numbered, shown, with_end, without, woven}
use Rattle.topo_core.specs.Items.{IsIn, has_id}
use Rattle.topo_core.specs.Lawful.{IsWellFormed, Lawful, has_good_rotation, is_good_crossing}
use Rattle.topo_core.specs.Picture.{around_vertex, cross_row, edge_at, edge_row, end_dart, rotation, system, vertices}
use Rattle.topo_core.specs.Routes.{Pricing}
use Rattle.topo_core.specs.Steps.{Step}
use Rattle.topo_core.proofs.Interface.{any_of, crossing_on, crossing_there, edge_at_row, filter_nothing, filter_whole, find_by_id, found, found_more, from_least_stays, good_crossing, good_rotation}
use Rattle.topo_core.proofs.Interface.{in_has_id, is_one_of, left_true, numbered_in, on_path_of, right_true, row_id, row_in, shown_old_row, shown_rotation_other, some_of, test_of_each, vertex_in}
use Rattle.topo_core.proofs.Interface.{vertex_point, without_crossing, without_rotation, without_row}
use Rattle.topo_route.specs.Regions.{IsApart, IsKept, IsRegionOf, RegionState, Spares, holds_edge, holds_vertex}
use Rattle.topo_route.proofs.surviving.KeptRegions.{end_of, same_row, vertex_of_item}

-- ---- What is kept twice

apart_by : (f : ℕ → Bool) (m n : ℕ) → f m ≡ true → f n ≡ false → m ≢ n
apart_by f m n h l e = false≢true (sym l ∙ ap f (sym e) ∙ h)

-- what is kept, and kept on, is kept
kept_twice : (before p q : Rows) (region : RegionState) → IsKept before p region → IsKept p q region → IsKept before q region
kept_twice before p q region kept on = record {
  edges = λ e h. on.edges e h ∙ kept.edges e h;
  crossings = λ e x h at. on.crossings e x h (subst (λ (row : EdgeRow). IsIn x row.crossings) (sym (same_row before p region kept e h)) at)
      ∙ kept.crossings e x h at;
  rotations = λ w h. on.rotations w h ∙ kept.rotations w h;
}

-- a vertex of a connected picture has an edge
has_edge : (rows : Rows) → Lawful rows → (w : ℕ) → w < length rows.rotations → (e : ℕ) × IsIn e (rotation rows w)
has_edge rows lawful w below = by_list (rotation rows w) refl where
  by_list : (list : List ℕ) → rotation rows w ≡ list → (e : ℕ) × IsIn e (rotation rows w)
  by_list [] is =
      let bare : (length (around_vertex rows w) == 0) ≡ true = ap (λ es. length (map (end_dart rows w) es) == 0) is in
      let some = any_of (λ around. length around == 0) (around_vertex rows w) (system rows) (vertex_point rows w (vertex_in rows w below)) bare in
      absurd (false≢true (sym lawful.embedding.connected.no_bare_point ∙ some))
  by_list (e ∷ es) is = (e, subst (IsIn e) (sym is) (inl refl))

-- a kept region is a region of the later picture
region_now : (before p : Rows) (region : RegionState) → Lawful before → IsRegionOf before region → IsKept before p region → IsRegionOf p region
region_now before p region lawful of_before kept = record {
  there = λ e h. ap is_some (kept.edges e h) ∙ of_before.there e h;
  vertices = λ w h.
      let (e, at) = has_edge before lawful w (of_before.vertices w h) in
      vertex_of_item p.rotations w e (subst (IsIn e) (sym (kept.rotations w h)) at);
  a_held = λ e h. ap (λ (row : EdgeRow). holds_vertex region row.a) (same_row before p region kept e h) ∙ of_before.a_held e h;
  b_held = λ e h. ap (λ (row : EdgeRow). holds_vertex region row.b) (same_row before p region kept e h) ∙ of_before.b_held e h;
}

-- ---- Growth

grown_kept : (p : Rows) (region : RegionState) (u position kind : ℕ) → IsRegionOf p region → holds_vertex region u ≡ false
    → IsKept p (grown p u position kind) region
grown_kept p region u position kind region_p spares = record {
  edges = λ e h. let (row, at) = some_of (edge_row p e) (region_p.there e h) in found_more (λ row. row.id == e) p.edges _ row at ∙ sym at;
  crossings = λ e x h at. refl;
  rotations = λ w h.
      let inside = region_p.vertices w h in
      let apart : w ≢ u = apart_by (holds_vertex region) w u h spares in
      get_or-append (with_end p.rotations u position p.next_edge) ((p.next_edge ∷ []) ∷ []) [] w (omega (arith, length-set {A = List ℕ}))
      ∙ grind (arith, get_or-set_other);
}

-- ---- Insertion

-- where nothing is put in, the path stays
woven_nothing : (new : ℕ → List ℕ) (s : ℕ) (path : List ℕ) → ((i : ℕ) → new i ≡ []) → woven new s path ≡ path
woven_nothing new s [] none = none s
woven_nothing new s (x ∷ xs) none = ap (λ list. list ++ (x ∷ woven new (s + 1) xs)) (none s) ∙ ap (λ list. x ∷ list) (woven_nothing new (s + 1) xs none)

all_in : {X : Type 0} (P : X → Type 0) (xs : List X) → All P xs → (x : X) → IsIn x xs → P x
all_in P [] all x h = absurd h
all_in P (y ∷ xs) all x (inl e) = subst P (sym e) (all 0 y (omega arith))
all_in P (y ∷ xs) all x (inr h) = all_in P xs (λ k d low. all (suc k) d (omega arith)) x h

other_id : (f : ℕ → Bool) (m n : ℕ) (t : Bool) → f m ≡ false → f n ≡ true → (m == n && t) ≡ false
other_id f m n t l h = elim (cases_Bool (m == n)) [
  | inl e ↦ absurd (false≢true (sym l ∙ ap f (eqb-true m n e) ∙ h))
  | inr e ↦ ap (λ b. b && t) e
]

module _ (p : Rows) (region : RegionState) (u v kind : ℕ) (r : Route) (good : IsWellFormed p) (region_p : IsRegionOf p region)
    (u_spared : holds_vertex region u ≡ false) (v_spared : holds_vertex region v ≡ false)
    (route_spares : All (λ d. holds_edge region d.edge ≡ false) r.crossed) where
  none_new : (e s : ℕ) → holds_edge region e ≡ true → new_on p r e s ≡ []
  none_new e s h = ap (map {A = ℕ × Dart} (λ x. x.0)) (filter_nothing (λ x. x.1.edge == e && x.1.seg == s) (numbered p r) (λ x at.
      other_id (holds_edge region) x.1.edge e (x.1.seg == s)
      (all_in (λ (d : Dart). holds_edge region d.edge ≡ false) r.crossed route_spares x.1 (numbered_in p.next_crossing x.0 x.1 r.crossed at)) h))

  row_stays : (e : ℕ) (row : EdgeRow) → holds_edge region e ≡ true → row.id ≡ e → crossed_row p r row ≡ row
  row_stays e row h id = ap (λ (path : List ℕ). record row { crossings = path })
      (woven_nothing (new_on p r row.id) 0 row.crossings (λ s. none_new row.id s (ap (holds_edge region) id ∙ h)))

  shown_kept : IsKept p (shown p u v kind r) region
  shown_kept = record {
    edges = λ e h.
        let (row, at) = some_of (edge_row p e) (region_p.there e h) in
        shown_old_row p u v kind r e row at ∙ ap (λ (row : EdgeRow). Some row) (row_stays e row h (row_id p e row at)) ∙ sym at;
    crossings = λ e x h on_path.
        let (row, at) = some_of (edge_row p e) (region_p.there e h) in
        let on_row : IsIn x row.crossings = subst (λ (row : EdgeRow). IsIn x row.crossings) (edge_at_row p e row at) on_path in
        let (c, c_at) = some_of (cross_row p x) (crossing_there p good.paths row (row_in p e row at) x on_row) in
        found_more (λ row. row.id == x) p.crossings (map (new_crossing p.next_edge) (numbered p r)) c c_at ∙ sym c_at;
    rotations = λ w h. shown_rotation_other p u v kind r w (apart_by (holds_vertex region) w u h u_spared) (apart_by (holds_vertex region) w v h v_spared);
  }

-- ---- Deletion

module _ (before p : Rows) (region : RegionState) (e : ℕ) (good : IsWellFormed before) (good_p : IsWellFormed p) (of_before : IsRegionOf before region)
    (kept : IsKept before p region)
    (region_p : IsRegionOf p region) (known : is_some (edge_row p e) ≡ true) (spares : IfSome (edge_row before e) (IsApart before region)) where
  -- the edge was there, and apart
  spared_row : (row : EdgeRow) → edge_row before e ≡ Some row → IsApart before region row
  spared_row row at = subst (λ (o : Option EdgeRow). IfSome o (IsApart before region)) at spares

  -- it is no edge of the region
  not_gone : (f : ℕ) → holds_edge region f ≡ true → f ≢ e
  not_gone f h same =
      let (row, at) = some_of (edge_row before e) (ap (λ n. is_some (edge_row before n)) (sym same) ∙ of_before.there f h) in
      false≢true (sym (spared_row row at).edge ∙ ap (holds_edge region) (row_id before e row at ∙ sym same) ∙ h)

  -- a crossing of the picture is one of the picture before, where an edge of the region has it
  crossing_before : (f : ℕ) (c : CrossRow) → holds_edge region f ≡ true → IsIn c p.crossings → IsIn c.id (edge_at p f).crossings
      → cross_row before c.id ≡ Some c
  crossing_before f c h c_in on_path =
      let on_before : IsIn c.id (edge_at before f).crossings = subst (λ (row : EdgeRow). IsIn c.id row.crossings) (same_row before p region kept f h) on_path in
      sym (kept.crossings f c.id h on_before)
      ∙ find_by_id (λ x. x.id) p.next_crossing p.crossings (left_true _ (list_all (is_good_crossing p) p.crossings) good_p.crossings) c c_in

  -- no edge of the region crosses it
  not_crossed : (f : ℕ) (c : CrossRow) → holds_edge region f ≡ true → IsIn c p.crossings → IsIn c.id (edge_at p f).crossings
      → IsIn c.id (edge_at p e).crossings → ⊥
  not_crossed f c h c_in on_path on_gone =
      let c_at = crossing_before f c h c_in on_path in
      let c_before = (found (λ x. x.id == c.id) c before.crossings c_at).0 in
      let is_good = good_crossing before good.crossings c c_before in
      let of_gone = is_one_of p good_p e c known c_in on_gone in
      let there : is_some (edge_row before e) ≡ true = elim of_gone [
        | inl same ↦ ap (λ n. is_some (edge_row before n)) same ∙ is_good.crossed
        | inr same ↦ ap (λ n. is_some (edge_row before n)) same ∙ is_good.newcomer
      ] in
      let one_of : (e == c.crossed || e == c.newcomer) ≡ true = elim of_gone [
        | inl same ↦ or_left (e == c.crossed) (e == c.newcomer) (eq-eqb e c.crossed same)
        | inr same ↦ or_right (e == c.crossed) (e == c.newcomer) (eq-eqb e c.newcomer same)
      ] in
      let (row, at) = some_of (edge_row before e) there in
      let on_row : IsIn c.id row.crossings =
      subst (λ (row : EdgeRow). IsIn c.id row.crossings) (edge_at_row before e row at) (on_path_of before good c c_before e there one_of) in
      let apart = spared_row row at in
      elim (is_one_of p good_p f c (region_p.there f h) c_in on_path) [
        | inl same ↦ false≢true (sym (apart.crossed c.id c on_row c_at) ∙ ap (holds_edge region) (sym same) ∙ h)
        | inr same ↦ false≢true (sym (apart.newcomer c.id c on_row c_at) ∙ ap (holds_edge region) (sym same) ∙ h)
      ]

  stays : (f x : ℕ) → holds_edge region f ≡ true → IsIn x (edge_at p f).crossings → has_id (edge_at p e).crossings x ≡ false
  stays f x h on_path = elim (cases_Bool (has_id (edge_at p e).crossings x)) [
    | inl gone ↦
        let (c, c_in, id) = crossing_on p good_p f x (region_p.there f h) on_path in
        absurd (not_crossed f c h c_in (subst (λ n. IsIn n (edge_at p f).crossings) (sym id) on_path)
        (subst (λ n. IsIn n (edge_at p e).crossings) (sym id) (in_has_id x (edge_at p e).crossings gone)))
    | inr left ↦ left
  ]

  -- it ends at no vertex of the region
  not_round : (w : ℕ) → holds_vertex region w ≡ true → IsIn e (rotation p w) → ⊥
  not_round w h at_p =
      let at : IsIn e (rotation before w) = subst (IsIn e) (kept.rotations w h) at_p in
      let w_in = vertex_in before w (of_before.vertices w h) in
      let (row, at_row) = some_of (edge_row before e) ((good_rotation before good.rotations w w_in).known e at) in
      let apart = spared_row row at_row in
      elim (end_of before good w e row w_in at_row at) [
        | inl same ↦ false≢true (sym apart.a ∙ ap (holds_vertex region) same ∙ h)
        | inr same ↦ false≢true (sym apart.b ∙ ap (holds_vertex region) same ∙ h)
      ]

  other_edge_left : (w f : ℕ) → holds_vertex region w ≡ true → IsIn f (rotation p w) → not (f == e) ≡ true
  other_edge_left w f h at = elim (cases_Bool (f == e)) [
    | inl same ↦ absurd (not_round w h (subst (λ n. IsIn n (rotation p w)) (eqb-true f e same) at))
    | inr apart ↦ ap not apart
  ]

  least_first : (w f : ℕ) → holds_vertex region w ≡ true → IsIn f (rotation p w) → get_or (rotation p w) 0 0 ≤ f
  least_first w f h at =
      let tested = test_of_each (has_good_rotation p) w (vertices p) good_p.rotations (vertex_in p w (region_p.vertices w h)) in
      le_of (get_or (rotation p w) 0 0) f (test_of_each (nat_le (get_or (rotation p w) 0 0)) f (rotation p w) (right_true _ _ tested) at) where
        le_of : (m n : ℕ) → nat_le m n ≡ true → m ≤ n
        le_of m n h = grind (arith, nat_tests)

  without_kept : IsKept p (without p e) region
  without_kept = record {
    edges = λ f h.
        let (row, at) = some_of (edge_row p f) (region_p.there f h) in
        let on_path = λ (x : ℕ)
        (k : IsIn x row.crossings). ap not (stays f x h (subst (λ (row : EdgeRow). IsIn x row.crossings) (sym (edge_at_row p f row at)) k)) in
        without_row p e f (not_gone f h) row at
        ∙ ap (λ (path : List ℕ). Some (record row { crossings = path })) (filter_whole (λ x. not (has_id (edge_at p e).crossings x)) row.crossings on_path)
        ∙ sym at;
    crossings = λ f x h on_path. without_crossing p e x (stays f x h on_path);
    rotations = λ w h.
        without_rotation p e w
        ∙ ap from_least (filter_whole (λ f. not (f == e)) (rotation p w) (λ f at. other_edge_left w f h at))
        ∙ from_least_stays (rotation p w) (λ f at. least_first w f h at);
  }

-- ---- All calls

-- a picture that has kept a region keeps it when a call spares it
pub spared : (price : Pricing) (limits : Limits) {before p q : Rows} {region : RegionState} (call : Call) (reply : Reply)
    → Lawful before → Lawful p → IsRegionOf before region → IsKept before p region
    → Step price limits p call reply q → Spares before region call reply → IsKept before q region
spared price limits {before} {region} call (Refused why) lawful lawful_p of_before kept step spares =
    subst (λ rows. IsKept before rows region) (sym step.1) kept
spared price limits {before} {p} {region} (Grow u position kind) (Grown vertex edge) lawful lawful_p of_before kept step spares =
    let region_p = region_now before p region lawful of_before kept in
    subst (λ rows. IsKept before rows region) (sym step.3)
    (kept_twice before p (grown p u position kind) region kept (grown_kept p region u position kind region_p spares))
spared price limits {before} {p} {region} (Insert u v kind) (Put made) lawful lawful_p of_before kept step spares =
    let region_p = region_now before p region lawful of_before kept in
    subst (λ rows. IsKept before rows region) (sym step.4) (kept_twice before p (shown p u v kind made.route) region kept
    (shown_kept p region u v kind made.route lawful_p.embedding.well_formed region_p spares.0 spares.1 spares.2))
spared price limits {before} {p} {region} (Delete e) (Deleted edge) lawful lawful_p of_before kept step spares =
    let region_p = region_now before p region lawful of_before kept in
    subst (λ rows. IsKept before rows region) (sym step.3) (kept_twice before p (without p e) region kept
    (without_kept before p region e lawful.embedding.well_formed lawful_p.embedding.well_formed of_before kept region_p step.0 spares))
spared price limits (Grow u position kind) (Put made) lawful lawful_p of_before kept step spares = absurd spares
spared price limits (Grow u position kind) (Deleted edge) lawful lawful_p of_before kept step spares = absurd spares
spared price limits (Insert u v kind) (Grown vertex edge) lawful lawful_p of_before kept step spares = absurd spares
spared price limits (Insert u v kind) (Deleted edge) lawful lawful_p of_before kept step spares = absurd spares
spared price limits (Delete e) (Grown vertex edge) lawful lawful_p of_before kept step spares = absurd spares
spared price limits (Delete e) (Put made) lawful lawful_p of_before kept step spares = absurd spares
