-- Rows with their embedding after a growth.
use Rattle.std.proofs.Common.{◌≡◌, ◌+◌, ◌<◌, ◌++◌, ap, arith, Bool, cond, false, inl, inr, length, length-append, List}
use Rattle.std.proofs.Common.{[], ◌∷◌, Err, Ok, OnErr, OnOk, Result, not, refl, subst, sym, suc, true, zero, ℕ, ◌∙◌, ◌⊎◌}
use Rattle.std.specs.Prelude.{◌==◌, find, None, Option, slice_get, slice_index, slice_index_or, Some, unwrap_or}
use Rattle.std.specs.List.{position_or_len}
use Rattle.std.proofs.lemmas.Bool.{cases_Bool, ne_eqb}
use Rattle.std.proofs.lemmas.List.{get_or_append_left, get_or_at}
use Rattle.std.proofs.lemmas.List.Concat.{flat_map-append}
use Rattle.std.proofs.lemmas.Option.{slice_get_within}
use Rattle.topo_core.specs.declared.darts.Dart.{Dart}
use Rattle.topo_core.specs.declared.darts.Way.TheVariants.{Forward}
use Rattle.topo_core.specs.declared.rows.EdgeRow.{EdgeRow}
use Rattle.topo_core.specs.declared.rows.Rows.{Rows}
use Rattle.topo_core.specs.Changes.{grown}
use Rattle.topo_core.specs.Cycles.{map_of}
use Rattle.topo_core.specs.Edits.{IsHang}
use Rattle.topo_core.specs.Items.{IsIn}
use Rattle.topo_core.specs.Lawful.{IsWellFormed}
use Rattle.topo_core.specs.Picture.{corner, darts, darts_of, end_dart, index_of, rotation, turn_images}
use Rattle.topo_core.specs.Pictures.{back, forward}
use Rattle.topo_core.specs.Rotations.{twin}
use Rattle.topo_core.specs.Systems.{has_dart}
use Rattle.topo_core.proofs.Interface.{corner_in, eqb_self, get_index, get_there, has_at, images_length}
use Rattle.topo_perm.specs.Renumbering.{RenumbersTurn}
use Rattle.topo_perm.specs.Runs.{IsStep}
use Rattle.topo_perm.specs.Runs.Edit.{Hang}
use Rattle.topo_perm.proofs.Interface.{IsGrowthUnder, twin-cases}
use Rattle.topo_map.specs.Rotation.{AddsLabel, Grows, IsEmbedding, Rotation, edge_of, half_limit, is_live, turn, turning_of}
use Rattle.topo_map.proofs.Interface.{hang_step}
use Rattle.topo_kept_rows.proofs.Interface.{corner_is, even_count, grown_good, grown_slab, new_row, old_edge}
use Rattle.topo_embedded.specs.Halves.{RowsWithPaths, ShowsRows, half_at, half_in, path_of}
use Rattle.topo_embedded.proofs.halves.Made.{agreeing_numbers}
use Rattle.topo_embedded.proofs.halves.Numbers.{StandsAt, half_alive, half_of_number, stands_at}
use Rattle.topo_core.specs.declared.rows.TheConstants.{KINDS}

-- ---- Lists with something more at their end

-- where it is found before
position_more : {X : Type 0} (q : X → Bool) (xs ys : List X) (x : X) → find q xs ≡ Some x → position_or_len q (xs ++ ys) ≡ position_or_len q xs
position_more q [] ys x h = cc
position_more q (y ∷ xs) ys x h = elim (cases_Bool (q y)) [
  | inl t ↦ ap (λ (b : Bool). cond {A = ℕ} (not b) (1 + position_or_len q (xs ++ ys)) 0) t
      ∙ sym (ap (λ (b : Bool). cond {A = ℕ} (not b) (1 + position_or_len q xs) 0) t)
  | inr f ↦
      let rest = position_more q xs ys x (sym (ap (λ (b : Bool). cond b (Some y) (find q xs)) f) ∙ h) in
      ap (λ (k : ℕ). cond {A = ℕ} (not (q y)) (1 + k) 0) rest
]

-- where it is the new one alone
position_new : {X : Type 0} (q : X → Bool) (xs : List X) (y : X) → ((x : X) → IsIn x xs → q x ≡ false) → q y ≡ true
    → position_or_len q (xs ++ y ∷ []) ≡ length xs
position_new q [] y other is = ap (λ (b : Bool). cond {A = ℕ} (not b) (1 + position_or_len q []) 0) is
position_new q (x ∷ xs) y other is =
    let rest = position_new q xs y (λ z h. other z (inr h)) is in
    ap (λ (b : Bool). cond {A = ℕ} (not b) (1 + position_or_len q (xs ++ y ∷ [])) 0) (other x (inl refl)) ∙ omega arith

-- what stands at a place
got_one_more : {X : Type 0} (xs : List X) (y d : X) (a : ℕ) → slice_get (xs ++ y ∷ []) a ≡ Some d → (slice_get xs a ≡ Some d) ⊎ ((a ≡ length xs) × (d ≡ y))
got_one_more [] y d zero h = inr (refl, cc)
got_one_more [] y d (suc a) h = absurd (none h) where
  none : {X : Type 0} {d : X} → None ≡ Some d → ⊥
  none h = cc
got_one_more (x ∷ xs) y d zero h = inl h
got_one_more (x ∷ xs) y d (suc a) h = grind (arith, got_one_more xs y d a h)

got_two_more : {X : Type 0} (xs : List X) (y z d : X) (a : ℕ) → slice_get (xs ++ y ∷ z ∷ []) a ≡ Some d → (slice_get xs a ≡ Some d)
    ⊎ (((a ≡ length xs) × (d ≡ y)) ⊎ ((a ≡ suc (length xs)) × (d ≡ z)))
got_two_more [] y z d zero h = inr (inl (refl, cc))
got_two_more [] y z d (suc zero) h = inr (inr (refl, cc))
got_two_more [] y z d (suc (suc a)) h = absurd (none h) where
  none : {X : Type 0} {d : X} → None ≡ Some d → ⊥
  none h = cc
got_two_more (x ∷ xs) y z d zero h = inl h
got_two_more (x ∷ xs) y z d (suc a) h = grind (arith, got_two_more xs y z d a h)

-- ---- The grown rows

module _ (rows : Rows) (good : IsWellFormed rows) (u v kind : ℕ) (u_in : u < length rows.rotations) (v_in : v < length (rotation rows u)) (known : kind < KINDS)
    (paths : List (List ℕ)) (r : Rotation)
    (s : ShowsRows (record { rows = rows; paths = paths }) r) (x : ℕ) where
  abbrev p : RowsWithPaths
  p = record { rows = rows; paths = paths }

  abbrev after : Rows
  after = grown rows u v kind

  abbrev q : RowsWithPaths
  q = record { rows = after; paths = paths ++ (x ∷ []) ∷ [] }

  abbrev f : ℕ
  f = rows.next_edge

  abbrev m : ℕ
  m = length (turn_images rows)

  abbrev row : EdgeRow
  row = new_row rows u v kind good u_in v_in known

  good_after : IsWellFormed after
  good_after = grown_good rows u v kind good u_in v_in known

  darts_after : darts after ≡ darts rows ++ forward f 0 ∷ back f 0 ∷ []
  darts_after = flat_map-append darts_of rows.edges (row ∷ [])

  -- an old dart keeps its half
  old_half : (d : Dart) → has_dart (darts rows) d ≡ true → half_in q d ≡ half_in p d
  old_half d h =
      let at : StandsAt rows d = stands_at rows good d h in
      grind (arith, position_more, slice_get_within, get_or_append_left)

  new_path : path_of q f ≡ x ∷ []
  new_path =
      let place : position_or_len (λ r. r.id == f) after.edges ≡ length rows.edges =
      position_new (λ (r : EdgeRow). r.id == f) rows.edges row
      (λ r h. ne_eqb r.id f (λ e. (let less = old_edge rows u v kind good u_in v_in known r h in absurd (omega arith)))) (eqb_self f) in
      ap (λ k. slice_index_or (paths ++ (x ∷ []) ∷ []) k []) (place ∙ sym s.as_many) ∙ get_or_at paths (x ∷ []) [] [] (length paths) refl

  new_half : half_in q (forward f 0) ≡ x
  new_half = ap (λ (xs : List ℕ). slice_index_or xs 0 0) new_path

  new_twin : half_in q (back f 0) ≡ twin x
  new_twin = ap twin new_half

  module _ (r' : Rotation) (whole : IsEmbedding r) (named : ℕ) (c : Dart) (at : corner rows u v ≡ Some c) (is : named ≡ half_in p c)
      (edit : IsHang (turn r) (turn r') half_limit named x) (grows : Grows r r' x)
      (labels : AddsLabel (is_live r) (edge_of r) (edge_of r') x f) where
    corner_there : has_dart (darts rows) c ≡ true
    corner_there = corner_in rows good u v c at

    alive : (d : Dart) → has_dart (darts rows) d ≡ true → is_live r (half_in p d) ≡ true
    alive d h = half_alive p good r s (half_in p d) (record { dart = d; there = h; is = refl })

    named_is : named ≡ half_at p (index_of rows c)
    named_is = is ∙ sym (half_of_number p good c corner_there)

    step : IsStep half_limit (turning_of r) (Hang (half_at p (index_of rows c)) x) (turning_of r')
    step = subst (λ (k : ℕ). IsStep half_limit (turning_of r) (Hang k x) (turning_of r')) named_is
        (hang_step r r' named x whole (ap (is_live r) is ∙ alive c corner_there) edit grows)

    under : IsGrowthUnder (map_of (turn_images after)) m (half_at p) (turning_of r') half_limit x
    under = grown_slab rows good u v kind u_in v_in known c at (half_at p) s.back half_limit (turning_of r) (turning_of r') x s.renumbers whole.slab step

    as_many : length (turn_images after) ≡ suc (suc m)
    as_many = omega (arith, images_length after, images_length rows, ap length darts_after, length-append (darts rows) (forward f 0 ∷ back f 0 ∷ []))

    record HasHalf (a : ℕ) (d : Dart) : Type 0 where
      numbered : under.number a ≡ half_in q d
      label : edge_of r' (half_in q d) ≡ d.edge

    has_half : (a : ℕ) (d : Dart) → slice_get (darts after) a ≡ Some d → HasHalf a d
    has_half a d got = elim (got_two_more (darts rows) (forward f 0) (back f 0) d a (sym (ap (λ (ds : List Dart). slice_get ds a) darts_after) ∙ got)) [
      | inl old ↦
          let h : has_dart (darts rows) d ≡ true = has_at (darts rows) a d old in
          let less : a < m = omega (arith, images_length rows, slice_get_within (darts rows) a d old) in
          record {
            numbered = under.old_number a less ∙ ap (λ (o : Option Dart). half_in p (unwrap_or o (record { edge = 0; seg = 0; way = Forward }))) old
                ∙ sym (old_half d h);
            label = ap (edge_of r') (old_half d h) ∙ labels.others (half_in p d) (alive d h) ∙ s.labels d h;
          }
      | inr (inl new) ↦ grind (arith, images_length, under, new_half)
      | inr (inr new) ↦
          let place : a ≡ twin m = omega (arith, new.0, images_length rows, even_count rows good, twin-cases m) in
          let less : m < suc (suc m) = omega arith in
          subst (HasHalf a) (sym new.1) (record {
            numbered = ap under.number place ∙ sym (under.renumbers.twins.each m less) ∙ ap twin under.new_number ∙ sym new_twin;
            label = ap (edge_of r') new_twin ∙ labels.here_twin;
          })
    ]

    pub grown_shows : ShowsRows q r'
    grown_shows = record {
      as_many = omega (arith, s.as_many, length-append paths ((x ∷ []) ∷ []), length-append rows.edges (row ∷ []));
      along = λ k other got. elim (got_one_more rows.edges row other k got) [
        | inl old ↦
            let inside : k < length paths = omega (arith, s.as_many, slice_get_within rows.edges k other old) in
            ap length (get_or_append_left paths ((x ∷ []) ∷ []) [] k inside) ∙ s.along k other old
        | inr new ↦ grind (arith, get_or_at)
      ];
      back = under.back_number;
      renumbers = agreeing_numbers under.number (half_at q) under.back_number (map_of (turn_images after)) (turn r') (length (turn_images after))
          (is_live r') half_limit
          (subst (λ (n : ℕ). RenumbersTurn under.number under.back_number (map_of (turn_images after)) (turn r') n (is_live r') half_limit)
          (sym as_many) under.renumbers) (λ a la.
          let (d, got) = get_there (darts after) a (subst (λ (n : ℕ). a < n) (images_length after) la) in
          (has_half a d got).numbered ∙ sym (ap (λ (o : Option Dart). half_in q (unwrap_or o (record { edge = 0; seg = 0; way = Forward }))) got));
      labels = λ d h. (has_half (index_of after d) d (get_index after good_after.paths d h)).label;
    }

-- ---- As the code goes

-- the halves and the turn tell
pub kept_shows : (p : RowsWithPaths) (r r' : Rotation) → r'.slots ≡ r.slots → ShowsRows p r → ShowsRows p r'
kept_shows p r r' same s = grind (arith, as_many)

-- the half at position v of vertex u has this name
pub record IsCornerNamed (p : RowsWithPaths) (u v named : ℕ) : Type 0 where
  pub formed : IsWellFormed p.rows
  pub vertex : u < length p.rows.rotations
  pub position : v < length (rotation p.rows u)
  pub names : (c : Dart) → corner p.rows u v ≡ Some c → named ≡ half_in p c

-- a segment of this edge hangs at a half
pub record IsHung (before after : Rotation) (named x edge : ℕ) : Type 0 where
  pub whole : IsEmbedding before
  pub edit : IsHang (turn before) (turn after) half_limit named x
  pub grows : Grows before after x
  pub label : AddsLabel (is_live before) (edge_of before) (edge_of after) x edge

pub corner_alive : {p : RowsWithPaths} {u v named : ℕ} {r : Rotation} → IsCornerNamed p u v named → (r' : Rotation) → r'.slots ≡ r.slots → ShowsRows p r
    → is_live r' named ≡ true
corner_alive {p} {u} {v} {r} at r' same s =
    let c : Dart = end_dart p.rows u (slice_index (rotation p.rows u) v) in
    let here : corner p.rows u v ≡ Some c = corner_is p.rows at.formed u at.vertex v at.position in
    ap (is_live r') (at.names c here)
    ∙ half_alive p at.formed r' (kept_shows p r r' same s) (half_in p c) (record { dart = c; there = corner_in p.rows at.formed u v c here; is = refl })

pub grown_parts : {p : RowsWithPaths} {u v named : ℕ} {r r' r'' : Rotation} {x : ℕ} {after : Rows} {path : List ℕ} {paths_after : List (List ℕ)}
    → IsCornerNamed p u v named → (kind : ℕ) → kind < KINDS → ShowsRows p r → r'.slots ≡ r.slots → IsHung r' r'' named x p.rows.next_edge
    → after ≡ grown p.rows u v kind → path ≡ x ∷ [] → paths_after ≡ p.paths ++ path ∷ []
    → ShowsRows (record { rows = after; paths = paths_after }) r''
grown_parts {p} {u} {v} {named} {r} {r'} {r''} {x} {after} at kind known s same hung rows_are path_is paths_are =
    let c : Dart = end_dart p.rows u (slice_index (rotation p.rows u) v) in
    let here : corner p.rows u v ≡ Some c = corner_is p.rows at.formed u at.vertex v at.position in
    let shows : ShowsRows (record { rows = grown p.rows u v kind; paths = p.paths ++ (x ∷ []) ∷ [] }) r'' =
    grown_shows p.rows at.formed u v kind at.vertex at.position known p.paths r' (kept_shows p r r' same s) x r'' hung.whole named c here (at.names c here)
    hung.edit hung.grows hung.label in
    subst (λ (q : RowsWithPaths). ShowsRows q r'')
    (ap (λ (rs : Rows). (let q : RowsWithPaths = record { rows = rs; paths = p.paths ++ (x ∷ []) ∷ [] } in q)) (sym rows_are)
    ∙ ap (λ (ps : List (List ℕ)). (let q : RowsWithPaths = record { rows = after; paths = ps } in q))
    (ap (λ (l : List ℕ). p.paths ++ l ∷ []) (sym path_is) ∙ sym paths_are)) shows

-- grown or not
pub grown_formed : {A E : Type 0} (result : Result A E) {p : RowsWithPaths} {rows new : Rows} {paths : List (List ℕ)} {u v kind : ℕ}
    → (let q : RowsWithPaths = record { rows = rows; paths = paths } in q ≡ p) → IsWellFormed rows → u < length p.rows.rotations
    → v < length (rotation p.rows u) → kind < KINDS
    → OnOk result (new ≡ grown rows u v kind) → OnErr result (new ≡ rows) → IsWellFormed new
grown_formed (Ok a) {p} {rows} {u} {v} {kind} seen good u_in v_in known ok err =
    let same : p.rows ≡ rows = ap (λ (q : RowsWithPaths). q.rows) (sym seen) in
    subst IsWellFormed (sym ok) (grown_good rows u v kind good (subst (λ (rs : Rows). u < length rs.rotations) same u_in)
    (subst (λ (rs : Rows). v < length (rotation rs u)) same v_in) known)
grown_formed (Err e) seen good u_in v_in known ok err = subst IsWellFormed (sym err) good
