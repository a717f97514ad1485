-- The rows of a picture that shows a new edge along a route: each edge, each crossing and each rotation by those before.
use Rattle.std.proofs.Common.{◌≡◌, ◌≢◌, ℕ, ◌+◌, ◌<◌, ◌≤◌, append_assoc, append-nil, Bool, true, false, cond}
use Rattle.std.proofs.Common.{List, [], ◌∷◌, ◌++◌, length, refl, sym, ap, subst, ◌∙◌, arith, inl, inr}
use Rattle.std.specs.Prelude.{◌⊎◌, ◌==◌, Some, None, map, find, is_some, option_map}
use Rattle.std.specs.Option.{option_or}
use Rattle.std.specs.List.{list_all, enumerate_from}
use Rattle.std.proofs.lemmas.List.{get_or-set_same, get_or-set_other, length-set}
use Rattle.std.proofs.lemmas.List.Folds.{find-append}
use Rattle.std.proofs.lemmas.Bool.{eq-eqb, eqb-true}
use Rattle.topo_core.specs.declared.darts.Dart.{Dart}
use Rattle.topo_core.specs.declared.rows.Rows.{Rows}
use Rattle.topo_core.specs.declared.rows.EdgeRow.{EdgeRow}
use Rattle.topo_core.specs.declared.rows.CrossRow.{CrossRow}
use Rattle.topo_core.specs.declared.routes.Route.{Route}
use Rattle.topo_core.specs.Items.{IsIn, rises_below}
use Rattle.topo_core.specs.Picture.{cross_row, edge_at, edge_row, rotation}
use Rattle.topo_core.specs.Lawful.{has_good_crossings, has_good_path, has_good_paths, is_good_crossing}
use Rattle.topo_core.specs.Changes.{crossed_row, new_crossing, numbered, put_in, shown}
use Rattle.topo_core.proofs.numbering.Counting.{eqb_less, ids_above}
use Rattle.topo_core.proofs.growing.Growing.{below_limit, in_append, none_found, rises_push, some_found_more}
use Rattle.topo_core.proofs.numbering.Members.{found, in_map, left_true, right_true}
use Rattle.topo_core.proofs.systems.SystemDarts.{edge_at_row, eqb_self, row_id, row_in, some_of}

-- ---- Items found by rising ids

-- an item is found by its id
pub find_by_id : {X : Type 0} (id : X → ℕ) (limit : ℕ) (xs : List X) → rises_below limit (map id xs) ≡ true → (x : X) → IsIn x xs
    → find (λ y. id y == id x) xs ≡ Some x
find_by_id id limit [] rises x h = absurd h
find_by_id id limit (y ∷ xs) rises x (inl e) = ap (λ (b : Bool). cond b (Some y) (find (λ y. id y == id x) xs)) (eq-eqb (id y) (id x) (ap id (sym e)))
    ∙ ap Some (sym e)
find_by_id id limit (y ∷ xs) rises x (inr h) =
    ap (λ (b : Bool). cond b (Some y) (find (λ y. id y == id x) xs))
    (eqb_less (id y) (id x) (ids_above limit (id y) (map id xs) rises (id x) (in_map id x xs h)))
    ∙ find_by_id id limit xs (right_true _ _ rises) x h

-- what is found among images is the image of what is found
pub find_map : {X Y : Type 0} (q : Y → Bool) (f : X → Y) (xs : List X) → find q (map f xs) ≡ option_map f (find (λ x. q (f x)) xs)
find_map q f [] = refl
find_map q f (x ∷ xs) = by_test (q (f x)) (find_map q f xs) where
  by_test : (b : Bool) → find q (map f xs) ≡ option_map f (find (λ x. q (f x)) xs)
      → cond b (Some (f x)) (find q (map f xs)) ≡ option_map f (cond b (Some x) (find (λ x. q (f x)) xs))
  by_test true rest = refl
  by_test false rest = rest

-- an item of images is an image
pub in_images : {X Y : Type 0} (f : X → Y) (y : Y) (xs : List X) → IsIn y (map f xs) → (x : X) × IsIn x xs × (y ≡ f x)
in_images f y [] h = absurd h
in_images f y (x ∷ xs) (inl e) = (x, inl refl, e)
in_images f y (x ∷ xs) (inr h) = let rest = in_images f y xs h in (rest.0, inr rest.1, rest.2)

-- ids that rise, and the next n numbers after them
pub rises_on : {X : Type 0} (xs : List ℕ) (n : ℕ) (ys : List X) → rises_below n xs ≡ true
    → rises_below (n + length ys) (xs ++ map (λ y. y.0) (enumerate_from n ys)) ≡ true
rises_on xs n [] rises = grind (arith, append-nil)
rises_on xs n (y ∷ ys) rises =
    let same : n + length (y ∷ ys) ≡ n + 1 + length ys = omega arith in
    ap (λ m. rises_below m (xs ++ n ∷ map (λ y. y.0) (enumerate_from (n + 1) ys))) same
    ∙ ap (rises_below (n + 1 + length ys)) (sym (append_assoc xs (n ∷ []) (map (λ y. y.0) (enumerate_from (n + 1) ys))))
    ∙ rises_on (xs ++ n ∷ []) (n + 1) ys (rises_push n xs rises)

-- ---- Numbered items

-- the number of an item is at least the first
pub number_from : {X : Type 0} (n x : ℕ) (d : X) (ds : List X) → IsIn (x, d) (enumerate_from n ds) → n ≤ x
number_from n x d [] h = absurd h
number_from n x d (c ∷ ds) (inl e) = let same : x ≡ n = ap (λ p. p.0) e in omega arith
number_from n x d (c ∷ ds) (inr h) = let rest = number_from (n + 1) x d ds h in omega arith

-- and below the first number that is not given
pub number_below : {X : Type 0} (n x : ℕ) (d : X) (ds : List X) → IsIn (x, d) (enumerate_from n ds) → x < n + length ds
number_below n x d [] h = absurd h
number_below n x d (c ∷ ds) (inl e) = let same : x ≡ n = ap (λ p. p.0) e in omega arith
number_below n x d (c ∷ ds) (inr h) = let rest = number_below (n + 1) x d ds h in omega arith

-- a numbered item is an item
pub numbered_in : {X : Type 0} (n x : ℕ) (d : X) (ds : List X) → IsIn (x, d) (enumerate_from n ds) → IsIn d ds
numbered_in n x d [] h = absurd h
numbered_in n x d (c ∷ ds) (inl e) = inl (ap (λ p. p.1) e)
numbered_in n x d (c ∷ ds) (inr h) = inr (numbered_in (n + 1) x d ds h)

-- a numbered item is found by its number
pub find_numbered : {X : Type 0} (n x : ℕ) (d : X) (ds : List X) → IsIn (x, d) (enumerate_from n ds) → find (λ y. y.0 == x) (enumerate_from n ds) ≡ Some (x, d)
find_numbered n x d ds h = find_by_id (λ y. y.0) (n + length ds) (enumerate_from n ds) (rises_on [] n ds refl) (x, d) h

-- ---- Rows by their ids

-- the row of an edge is found by its id
pub row_found : (rows : Rows) → has_good_paths rows ≡ true → (row : EdgeRow) → IsIn row rows.edges → edge_row rows row.id ≡ Some row
row_found rows paths row h = find_by_id (λ row. row.id) rows.next_edge rows.edges (left_true _ (list_all (has_good_path rows) rows.edges) paths) row h

-- ids of edges are below the next one
pub edge_below : (rows : Rows) → has_good_paths rows ≡ true → (row : EdgeRow) → IsIn row rows.edges → row.id < rows.next_edge
edge_below rows paths row h = below_limit rows.next_edge (map (λ row. row.id) rows.edges) (left_true _ (list_all (has_good_path rows) rows.edges) paths) row.id
    (in_map (λ row. row.id) row rows.edges h)

-- and so is the id of an edge that is there
pub known_edge_below : (rows : Rows) → has_good_paths rows ≡ true → (e : ℕ) → is_some (edge_row rows e) ≡ true → e < rows.next_edge
known_edge_below rows paths e known = let pick = some_of (edge_row rows e) known in
    subst (λ f. f < rows.next_edge) (row_id rows e pick.0 pick.1) (edge_below rows paths pick.0 (row_in rows e pick.0 pick.1))

-- ids of crossings are below the next one
pub crossing_below : (rows : Rows) → has_good_crossings rows ≡ true → (x : CrossRow) → IsIn x rows.crossings → x.id < rows.next_crossing
crossing_below rows crossings x h = below_limit rows.next_crossing (map (λ x. x.id) rows.crossings)
    (left_true _ (list_all (is_good_crossing rows) rows.crossings) crossings) x.id (in_map (λ x. x.id) x rows.crossings h)

-- and so is the id of a crossing that is there
pub known_crossing_below : (rows : Rows) → has_good_crossings rows ≡ true → (x : ℕ) → is_some (cross_row rows x) ≡ true → x < rows.next_crossing
known_crossing_below rows crossings x known =
    let pick = some_of (cross_row rows x) known in
    let at = found (λ row. row.id == x) pick.0 rows.crossings pick.1 in
    subst (λ y. y < rows.next_crossing) (eqb-true pick.0.id x at.1) (crossing_below rows crossings pick.0 at.0)

-- ---- The picture that shows the new edge

module _ (rows : Rows) (u v kind : ℕ) (r : Route) where
  abbrev after : Rows
  after = shown rows u v kind r

  -- the row of the new edge
  abbrev pub newcomer_row : EdgeRow
  newcomer_row = record { id = rows.next_edge; a = u; b = v; kind = kind; crossings = map (λ x. x.0) (numbered rows r) }

  -- the row of any edge
  pub shown_edge_row : (e : ℕ)
      → edge_row after e ≡ option_or (option_map (crossed_row rows r) (edge_row rows e)) (cond (rows.next_edge == e) (Some newcomer_row) None)
  shown_edge_row e = grind (arith, find-append, find_map)

  -- an old edge has its row with the new crossings woven into its path
  pub shown_old_row : (e : ℕ) (row : EdgeRow) → edge_row rows e ≡ Some row → edge_row after e ≡ Some (crossed_row rows r row)
  shown_old_row e row there = shown_edge_row e
      ∙ ap (λ o. option_or (option_map (crossed_row rows r) o) (cond (rows.next_edge == e) (Some newcomer_row) None)) there

  pub shown_old_edge : (e : ℕ) (row : EdgeRow) → edge_row rows e ≡ Some row → edge_at after e ≡ crossed_row rows r row
  shown_old_edge e row there = edge_at_row after e (crossed_row rows r row) (shown_old_row e row there)

  -- an edge that was there still is
  pub shown_old_there : (e : ℕ) → is_some (edge_row rows e) ≡ true → is_some (edge_row after e) ≡ true
  shown_old_there e known = let pick = some_of (edge_row rows e) known in ap is_some (shown_old_row e pick.0 pick.1)

  -- the new edge was not there
  pub no_new_row : has_good_paths rows ≡ true → edge_row rows rows.next_edge ≡ None
  no_new_row paths = none_found (λ row. row.id == rows.next_edge) rows.edges (λ row h. eqb_less row.id rows.next_edge (edge_below rows paths row h))

  -- the new edge has its row
  pub shown_new_row : has_good_paths rows ≡ true → edge_row after rows.next_edge ≡ Some newcomer_row
  shown_new_row paths = grind (arith, shown_edge_row, no_new_row, eqb_self)

  pub shown_new_edge : has_good_paths rows ≡ true → edge_at after rows.next_edge ≡ newcomer_row
  shown_new_edge paths = edge_at_row after rows.next_edge newcomer_row (shown_new_row paths)

  -- a row of the picture is an old one with new crossings or the new one
  pub shown_rows : (row : EdgeRow) → IsIn row after.edges → ((old : EdgeRow) × IsIn old rows.edges × (row ≡ crossed_row rows r old)) ⊎ (row ≡ newcomer_row)
  shown_rows row h = elim (in_append row (map (crossed_row rows r) rows.edges) (newcomer_row ∷ []) h) [
    | inl old ↦ inl (in_images (crossed_row rows r) row rows.edges old)
    | inr k ↦ elim k [ inl e ↦ inr e | inr none ↦ absurd none ]
  ]

  -- an edge of the picture is an old one or the new one
  pub shown_edges : has_good_paths rows ≡ true → (e : ℕ) (row : EdgeRow) → edge_row after e ≡ Some row
      → ((old : EdgeRow) × (edge_row rows e ≡ Some old) × (row ≡ crossed_row rows r old)) ⊎ ((e ≡ rows.next_edge) × (row ≡ newcomer_row))
  shown_edges paths e row there =
      let id = row_id after e row there in
      elim (shown_rows row (row_in after e row there)) [
        | inl (old, h, is) ↦ inl (old, subst (λ n. edge_row rows n ≡ Some old) (sym (ap (λ row. row.id) is) ∙ id) (row_found rows paths old h), is)
        | inr is ↦ inr (sym id ∙ ap (λ row. row.id) is, is)
      ]

  -- ---- Its crossings

  pub shown_old_crossing_there : (x : ℕ) → is_some (cross_row rows x) ≡ true → is_some (cross_row after x) ≡ true
  shown_old_crossing_there x known = some_found_more (λ row. row.id == x) rows.crossings (map (new_crossing rows.next_edge) (numbered rows r)) known

  -- the ids of the new crossings are new
  pub new_id_above : (x : ℕ) (d : Dart) → IsIn (x, d) (numbered rows r) → rows.next_crossing ≤ x
  new_id_above x d h = number_from rows.next_crossing x d r.crossed h

  pub no_new_crossing : has_good_crossings rows ≡ true → (x : ℕ) → rows.next_crossing ≤ x → cross_row rows x ≡ None
  no_new_crossing crossings x high =
      none_found (λ row. row.id == x) rows.crossings (λ row h. let low = crossing_below rows crossings row h in eqb_less row.id x (omega arith))

  -- a crossed dart has its crossing
  pub shown_new_crossing : has_good_crossings rows ≡ true → (x : ℕ) (d : Dart) → IsIn (x, d) (numbered rows r)
      → cross_row after x ≡ Some (new_crossing rows.next_edge (x, d))
  shown_new_crossing crossings x d h = grind (arith, find-append, no_new_crossing, new_id_above, find_map, find_numbered)

  -- a crossing of the picture is an old one or a new one
  pub shown_crossings : (row : CrossRow) → IsIn row after.crossings → IsIn row rows.crossings
      ⊎ ((x : ℕ) × (d : Dart) × IsIn (x, d) (numbered rows r) × (row ≡ new_crossing rows.next_edge (x, d)))
  shown_crossings row h = elim (in_append row rows.crossings (map (new_crossing rows.next_edge) (numbered rows r)) h) [
    | inl old ↦ inl old
    | inr new ↦ let image = in_images (new_crossing rows.next_edge) row (numbered rows r) new in inr (image.0.0, image.0.1, image.1, image.2)
  ]

  -- ---- Its rotations

  -- as many vertices
  pub shown_vertices : length after.rotations ≡ length rows.rotations
  shown_vertices = grind (arith, length-set)

  -- a vertex that is no end of the new edge keeps its list
  pub shown_rotation_other : (w : ℕ) → w ≢ u → w ≢ v → rotation after w ≡ rotation rows w
  shown_rotation_other w not_u not_v = grind (arith, get_or-set_other)

  -- the new edge stands where the route starts
  pub shown_rotation_start : u < length rows.rotations → u ≢ v → rotation after u ≡ put_in r.start rows.next_edge (rotation rows u)
  shown_rotation_start inside apart = grind (arith, get_or-set_other, get_or-set_same)

  -- and where it ends
  pub shown_rotation_end : v < length rows.rotations → u ≢ v → rotation after v ≡ put_in r.end rows.next_edge (rotation rows v)
  shown_rotation_end inside apart = grind (arith, get_or-set_same, length-set, get_or-set_other)
