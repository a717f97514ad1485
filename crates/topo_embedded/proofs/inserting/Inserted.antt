-- Rows with their embedding after an insertion: each dart has the half with its number.
use Rattle.std.proofs.Common.{◌≡◌, ◌<◌, ◌≤◌, ◌+◌, ap, arith, Bool, cond, false, inl, inr, length}
use Rattle.std.proofs.Common.{List, [], ◌∷◌, ◌++◌, not, refl, subst, suc, sym, true, zero, ℕ, ◌∙◌}
use Rattle.std.specs.Prelude.{◌==◌, find, map, slice_index_or, Some}
use Rattle.std.specs.List.{enumerate_from, position_or_len}
use Rattle.std.proofs.lemmas.Bool.{cases_Bool, ne_eqb}
use Rattle.std.proofs.lemmas.List.{get_or_append_left, get_or_at, length-map}
use Rattle.topo_core.specs.declared.darts.Dart.{Dart}
use Rattle.topo_core.specs.declared.darts.Way.{Way}
use Rattle.topo_core.specs.declared.darts.Way.TheVariants.{Forward, Back}
use Rattle.topo_core.specs.declared.rows.EdgeRow.{EdgeRow}
use Rattle.topo_core.specs.declared.rows.Rows.{Rows}
use Rattle.topo_core.specs.declared.routes.Route.{Route}
use Rattle.topo_core.specs.Changes.{crossed_row, shown}
use Rattle.topo_core.specs.Darts.{reversed}
use Rattle.topo_core.specs.Insertions.{CrossesOnce, ShowsTurns, backward, lifted, onward, onward_by}
use Rattle.topo_core.specs.Items.{IsIn}
use Rattle.topo_core.specs.Lawful.{IsWellFormed}
use Rattle.topo_core.specs.Picture.{darts, edge_row, index_of}
use Rattle.topo_core.specs.Pictures.{back, forward}
use Rattle.topo_core.specs.Rotations.{twin}
use Rattle.topo_core.specs.Systems.{has_dart}
use Rattle.topo_core.proofs.Interface.{edge_below, eqb_self, lifted_edge, newcomer_row}
use Rattle.topo_perm.proofs.Interface.{Subdivision, subdivided_number}
use Rattle.topo_map.specs.Rotation.{Rotation}
use Rattle.topo_rows.proofs.Interface.{got_within}
use Rattle.topo_embedded.specs.Crossing.{AreCrossedAt}
use Rattle.topo_embedded.specs.Halves.{RowsWithPaths, ShowsRows, by_way, half_at, half_in, path_of}
use Rattle.topo_embedded.specs.Inserting.{put_halves}
use Rattle.topo_embedded.proofs.halves.Numbers.{StandsAt, found_place, stands_at}
use Rattle.topo_embedded.proofs.inserting.Pieces.{AreAt, crossed_there, put_none}
use Rattle.topo_embedded.proofs.inserting.PutPaths.{back_put, forward_put, here, onward_put, backward_put, put_in}

-- ---- Lists

pub got_map : (f : List ℕ → List ℕ) → f [] ≡ [] → (xs : List (List ℕ)) (k : ℕ) → slice_index_or (map f xs) k [] ≡ f (slice_index_or xs k [])
got_map f none [] k = sym none
got_map f none (x ∷ xs) zero = refl
got_map f none (x ∷ xs) (suc k) = got_map f none xs k

module _ (rows : Rows) (r : Route) (e : ℕ) where
  place_old : (edges ys : List EdgeRow) (row : EdgeRow) → find (λ x. x.id == e) edges ≡ Some row
      → position_or_len (λ (x : EdgeRow). x.id == e) (map (crossed_row rows r) edges ++ ys) ≡ position_or_len (λ (x : EdgeRow). x.id == e) edges
  place_old [] ys row h = cc
  place_old (x ∷ edges) ys row h = elim (cases_Bool (x.id == e)) [
    | inl t ↦ ap (λ (b : Bool). cond {A = ℕ} (not b) (1 + position_or_len (λ (x : EdgeRow). x.id == e) (map (crossed_row rows r) edges ++ ys)) 0) t
        ∙ sym (ap (λ (b : Bool). cond {A = ℕ} (not b) (1 + position_or_len (λ (x : EdgeRow). x.id == e) edges) 0) t)
    | inr n ↦
        let rest = place_old edges ys row (sym (ap (λ (b : Bool). cond b (Some x) (find (λ x. x.id == e) edges)) n) ∙ h) in
        ap (λ (k : ℕ). cond {A = ℕ} (not (x.id == e)) (1 + k) 0) rest
  ]

  place_new : (edges : List EdgeRow) (y : EdgeRow) → ((x : EdgeRow) → IsIn x edges → (x.id == e) ≡ false) → (y.id == e) ≡ true
      → position_or_len (λ (x : EdgeRow). x.id == e) (map (crossed_row rows r) edges ++ y ∷ []) ≡ length edges
  place_new [] y other is = ap (λ (b : Bool). cond {A = ℕ} (not b) (1 + position_or_len (λ (x : EdgeRow). x.id == e) []) 0) is
  place_new (x ∷ edges) y other is =
      let rest = place_new edges y (λ z h. other z (inr h)) is in
      ap (λ (b : Bool). cond {A = ℕ} (not b) (1 + position_or_len (λ (x : EdgeRow). x.id == e) (map (crossed_row rows r) edges ++ y ∷ [])) 0)
      (other x (inl refl)) ∙ omega arith

-- ---- The numbers of the darts of the rows with the new edge

-- a lifted dart has the half of the first part of its segment, the darts at crossings those of the subdivision vertices, and the darts of the new edge those of
-- a line
pub record AreInserted (p : RowsWithPaths) (u v kind : ℕ) (route : Route) (js : List Subdivision) (line : List ℕ) (number : ℕ → ℕ) : Type 0 where
  pub names : (c : Dart) → has_dart (darts p.rows) c ≡ true
      → number (index_of (shown p.rows u v kind route) (lifted p.rows (shown p.rows u v kind route) c)) ≡ subdivided_number (half_at p) js (index_of p.rows c)
  pub met : (x : ℕ) (d : Dart) (j : Subdivision) → AreAt x d j p.rows.next_crossing route.crossed js
      → (number (index_of (shown p.rows u v kind route) (onward (shown p.rows u v kind route) x d)) ≡ j.beyond)
      × (number (index_of (shown p.rows u v kind route) (backward (shown p.rows u v kind route) x d)) ≡ twin j.near)
  pub line_there : (i : ℕ) → i ≤ length route.crossed → number (index_of (shown p.rows u v kind route) (forward p.rows.next_edge i)) ≡ slice_index_or line i 0
  pub line_back : (i : ℕ) → i ≤ length route.crossed
      → number (index_of (shown p.rows u v kind route) (back p.rows.next_edge i)) ≡ twin (slice_index_or line i 0)

module _ (p : RowsWithPaths) (good : IsWellFormed p.rows) (r : Rotation) (s : ShowsRows p r) (u v kind : ℕ) (route : Route) (once : CrossesOnce route.crossed)
    (now : IsWellFormed (shown p.rows u v kind route))
    (turns : ShowsTurns p.rows p.rows.next_edge u v route (shown p.rows u v kind route)) (js : List Subdivision) (all : AreCrossedAt p r route.crossed js)
    (line : List ℕ) where
  abbrev q : Rows
  q = shown p.rows u v kind route

  abbrev pub inserted : RowsWithPaths
  inserted = record { rows = q; paths = map (put_halves js) p.paths ++ line ∷ [] }

  abbrev put : Dart → ℕ
  put d = put_in p good r s u v kind route once now js all d

  pub path_old : (e : ℕ) (row : EdgeRow) → edge_row p.rows e ≡ Some row → path_of inserted e ≡ put_halves js (path_of p e)
  path_old e row found = grind (arith, place_old, newcomer_row, got_within, found_place, length-map, get_or_append_left, got_map, put_none)

  pub path_new : path_of inserted p.rows.next_edge ≡ line
  path_new = grind (arith, place_new, newcomer_row, ne_eqb, edge_below, eqb_self, length-map, get_or_at)

  -- the subdivision vertex of a crossed dart
  subdivision_for : (n x : ℕ) (d : Dart) (ds : List Dart) (ks : List Subdivision) → AreCrossedAt p r ds ks → IsIn (x, d) (enumerate_from n ds)
      → (j : Subdivision) × (has_dart (darts p.rows) d ≡ true) × AreAt x d j n ds ks
  subdivision_for n x d [] ks a i = absurd i
  subdivision_for n x d (c ∷ ds) [] a i = absurd a
  subdivision_for n x d (c ∷ ds) (k ∷ ks) a (inl same) =
      let dart : d ≡ c = ap (λ (y : ℕ × Dart). y.1) same in
      (k, subst (λ (b : Dart). has_dart (darts p.rows) b ≡ true) (sym dart) a.0.there, inl (ap (λ (y : ℕ × Dart). y.0) same, dart, refl))
  subdivision_for n x d (c ∷ ds) (k ∷ ks) a (inr i) = (let (j, there, at) = subdivision_for (n + 1) x d ds ks a.1 i in (j, there, inr at))

  -- the half of a dart of an old edge
  half_old : (d : Dart) (e : ℕ) (row : EdgeRow) → d.edge ≡ e → edge_row p.rows e ≡ Some row → half_in inserted d ≡ put d
  half_old d e row same found = ap (λ (xs : List ℕ). by_way (slice_index_or xs d.seg 0) d.way) (path_old d.edge row (ap (edge_row p.rows) same ∙ found))

  module _ (number : ℕ → ℕ) (n : AreInserted p u v kind route js line number) where
    many : (c : Dart) (st : StandsAt p.rows c) → c.seg < length (path_of p c.edge)
    many c st = (let long = s.along (position_or_len (λ (x : EdgeRow). x.id == c.edge) p.rows.edges) st.row st.at in omega (arith, long, st.on_path))

    lifted_put : (e g : ℕ) (w : Way) (row : EdgeRow) → edge_row p.rows e ≡ Some row → g < length (path_of p e)
        → put (lifted p.rows q (record { edge = e; seg = g; way = w }))
        ≡ subdivided_number (half_at p) js (index_of p.rows (record { edge = e; seg = g; way = w }))
    lifted_put e g Forward row found less = forward_put p good r s u v kind route once now js all e row found g less
    lifted_put e g Back row found less = back_put p good r s u v kind route once now js all e row found g less

    lifted_has : (c : Dart) → has_dart (darts p.rows) c ≡ true → half_in inserted (lifted p.rows q c) ≡ number (index_of q (lifted p.rows q c))
    lifted_has c h =
        let st : StandsAt p.rows c = stands_at p.rows good c h in
        half_old (lifted p.rows q c) c.edge st.row (lifted_edge p.rows q c) st.found ∙ lifted_put c.edge c.seg c.way st.row st.found (many c st)
        ∙ sym (n.names c h)

    by_edge : (x e : ℕ) (w : Way) → (onward_by q x e w).edge ≡ e
    by_edge x e Forward = refl
    by_edge x e Back = refl

    onward_has : (x : ℕ) (d : Dart) (j : Subdivision) → has_dart (darts p.rows) d ≡ true → AreAt x d j p.rows.next_crossing route.crossed js
        → half_in inserted (onward q x d) ≡ number (index_of q (onward q x d))
    onward_has x d j h at =
        let st : StandsAt p.rows d = stands_at p.rows good d h in
        let less = many d st in
        half_old (onward q x d) d.edge st.row (by_edge x d.edge d.way) st.found
        ∙ onward_put p good r s u v kind route once now js all d.edge st.row st.found d.seg less x j d.way
        (crossed_there p good r s d.edge d.seg (here p good r s u v kind route once now js all d.edge st.row st.found d.seg less)
        x d.way j p.rows.next_crossing route.crossed js all once at)
        ∙ sym (n.met x d j at).0

    backward_has : (x : ℕ) (d : Dart) (j : Subdivision) → has_dart (darts p.rows) d ≡ true → AreAt x d j p.rows.next_crossing route.crossed js
        → half_in inserted (backward q x d) ≡ number (index_of q (backward q x d))
    backward_has x d j h at =
        let st : StandsAt p.rows d = stands_at p.rows good d h in
        let less = many d st in
        half_old (backward q x d) d.edge st.row (by_edge x d.edge (reversed d.way)) st.found
        ∙ backward_put p good r s u v kind route once now js all d.edge st.row st.found d.seg less x j d.way
        (crossed_there p good r s d.edge d.seg (here p good r s u v kind route once now js all d.edge st.row st.found d.seg less)
        x d.way j p.rows.next_crossing route.crossed js all once at)
        ∙ sym (n.met x d j at).1

    line_has : (i : ℕ) (w : Way) → i ≤ length route.crossed
        → half_in inserted (record { edge = p.rows.next_edge; seg = i; way = w }) ≡ number (index_of q (record { edge = p.rows.next_edge; seg = i; way = w }))
    line_has i Forward le = ap (λ (xs : List ℕ). slice_index_or xs i 0) path_new ∙ sym (n.line_there i le)
    line_has i Back le = ap (λ (xs : List ℕ). twin (slice_index_or xs i 0)) path_new ∙ sym (n.line_back i le)

    -- each dart has the half with its number
    pub all_have : (d : Dart) → has_dart (darts q) d ≡ true → half_in inserted d ≡ number (index_of q d)
    all_have d h = elim (turns.no_others d h) [
      | inl new ↦ (
          let same : d ≡ record { edge = p.rows.next_edge; seg = d.seg; way = d.way } =
          ap (λ (e : ℕ). (let c : Dart = record { edge = e; seg = d.seg; way = d.way } in c)) new.0 in
          ap (half_in inserted) same ∙ line_has d.seg d.way new.1 ∙ ap (λ (c : Dart). number (index_of q c)) (sym same))
      | inr w ↦ elim w [
        | inl old ↦ ap (half_in inserted) old.2 ∙ lifted_has old.0 old.1 ∙ ap (λ (c : Dart). number (index_of q c)) (sym old.2)
        | inr y ↦ (
            let (j, there, at) = subdivision_for p.rows.next_crossing y.0 y.1 route.crossed js all y.2 in
            grind (arith, onward_has, backward_has))
      ]
    ]
