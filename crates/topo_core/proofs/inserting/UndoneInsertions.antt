-- The picture without the edge that was just shown is the picture before.
use Rattle.std.proofs.Common.{◌≡◌, ◌≢◌, ℕ, zero, suc, ◌+◌, ◌<◌, ◌≤◌, append-nil, Bool, true, false, cond}
use Rattle.std.proofs.Common.{not, List, [], ◌∷◌, ◌++◌, length, get_or, refl, ap, ◌∙◌, arith, inl, inr}
use Rattle.std.specs.Prelude.{◌==◌, ◌&&◌, filter, map, nat_le}
use Rattle.std.proofs.lemmas.List.{ext_get_or, take-append-drop}
use Rattle.std.proofs.lemmas.List.Elements.{filter-append}
use Rattle.std.proofs.lemmas.Simd.{map-map}
use Rattle.std.proofs.lemmas.Bool.{cases_Bool, eq-eqb, eqb-true}
use Rattle.std.proofs.lemmas.Bool.Decides.{nat_tests}
use Rattle.topo_core.specs.declared.darts.Dart.{Dart}
use Rattle.topo_core.specs.declared.rows.Rows.{Rows}
use Rattle.topo_core.specs.declared.rows.EdgeRow.{EdgeRow}
use Rattle.topo_core.specs.declared.rows.CrossRow.{CrossRow}
use Rattle.topo_core.specs.declared.routes.Route.{Route}
use Rattle.topo_core.specs.Items.{has_id, IsIn}
use Rattle.topo_core.specs.Picture.{edge_at, rotation, vertices}
use Rattle.topo_core.specs.Lawful.{has_good_rotation, IsWellFormed}
use Rattle.topo_core.specs.Changes.{crossed_row, from_least, new_crossing, new_on, numbered, put_in, shown, uncrossed_row, without, woven}
use Rattle.topo_core.specs.Insertions.{IsInsertable}
use Rattle.topo_core.proofs.numbering.Counting.{eqb_less, path_place_here}
use Rattle.topo_core.proofs.growing.Growing.{ne_from}
use Rattle.topo_core.proofs.numbering.Members.{in_left, in_map, in_right, right_true, test_of_each}
use Rattle.topo_core.proofs.inserting.ShownRows.{crossing_below, edge_below, in_images, known_crossing_below, known_edge_below, new_id_above, newcomer_row}
use Rattle.topo_core.proofs.inserting.ShownRows.{shown_new_edge, shown_rotation_end, shown_rotation_other, shown_rotation_start, shown_vertices}
use Rattle.topo_core.proofs.numbering.Standing.{good_rotation}
use Rattle.topo_core.proofs.systems.SystemDarts.{crossing_there, eqb_self, vertex_in}
use Rattle.topo_core.proofs.inserting.Weaving.{in_filter}
use Rattle.topo_core.proofs.deleting.WithoutRows.{has_id_in, in_has_id, least_below, least_in, without_rotation, without_vertices}

-- ---- Items that pass a test

-- where each item passes, the list stays as it is
pub filter_whole : {X : Type 0} (p : X → Bool) (xs : List X) → ((x : X) → IsIn x xs → p x ≡ true) → filter p xs ≡ xs
filter_whole p [] each = refl
filter_whole p (x ∷ xs) each = ap (λ (b : Bool). cond b (x ∷ filter p xs) (filter p xs)) (each x (inl refl))
    ∙ ap (λ ys. x ∷ ys) (filter_whole p xs (λ y h. each y (inr h)))

-- where none passes, nothing stays
pub filter_nothing : {X : Type 0} (p : X → Bool) (xs : List X) → ((x : X) → IsIn x xs → p x ≡ false) → filter p xs ≡ []
filter_nothing p [] none = refl
filter_nothing p (x ∷ xs) none = ap (λ (b : Bool). cond b (x ∷ filter p xs) (filter p xs)) (none x (inl refl)) ∙ filter_nothing p xs (λ y h. none y (inr h))

-- where those of the first part pass and none of the second, the first part stays
pub filter_front : {X : Type 0} (p : X → Bool) (xs ys : List X) → ((x : X) → IsIn x xs → p x ≡ true) → ((y : X) → IsIn y ys → p y ≡ false)
    → filter p (xs ++ ys) ≡ xs
filter_front p xs ys each none = filter-append p xs ys ∙ ap (λ zs. zs ++ filter p ys) (filter_whole p xs each)
    ∙ ap (λ zs. xs ++ zs) (filter_nothing p ys none) ∙ append-nil xs

-- where only the item between two parts fails, the parts stay
pub filter_parts : {X : Type 0} (p : X → Bool) (xs : List X) (y : X) (zs : List X) → p y ≡ false → ((x : X) → IsIn x (xs ++ zs) → p x ≡ true)
    → filter p (xs ++ y ∷ zs) ≡ xs ++ zs
filter_parts p xs y zs fails each = grind (arith, filter-append, filter_whole, in_left, in_right)

-- where those of the path pass and none of the new ones, the path stays
pub filter_woven : (p : ℕ → Bool) (new : ℕ → List ℕ) (s : ℕ) (path : List ℕ) → ((i x : ℕ) → IsIn x (new i) → p x ≡ false) → ((x : ℕ) → IsIn x path → p x ≡ true)
    → filter p (woven new s path) ≡ path
filter_woven p new s [] none each = filter_nothing p (new s) (none s)
filter_woven p new s (x ∷ path) none each =
    filter-append p (new s) (x ∷ woven new (s + 1) path)
    ∙ ap (λ zs. zs ++ filter p (x ∷ woven new (s + 1) path)) (filter_nothing p (new s) (none s))
    ∙ ap (λ (b : Bool). cond b (x ∷ filter p (woven new (s + 1) path)) (filter p (woven new (s + 1) path))) (each x (inl refl))
    ∙ ap (λ zs. x ∷ zs) (filter_woven p new (s + 1) path none (λ y h. each y (inr h)))

-- what changes no item changes no list
pub map_whole : {X : Type 0} (f : X → X) (xs : List X) → ((x : X) → IsIn x xs → f x ≡ x) → map f xs ≡ xs
map_whole f [] same = refl
map_whole f (x ∷ xs) same = ap (λ y. y ∷ map f xs) (same x (inl refl)) ∙ ap (λ ys. x ∷ ys) (map_whole f xs (λ y h. same y (inr h)))

-- ---- Rotations

other_id : (f g : ℕ) → g < f → not (g == f) ≡ true
other_id f g low = ap not (eqb_less g f low)

own_id : (f : ℕ) → not (f == f) ≡ false
own_id f = ap not (eqb_self f)

-- a list of smaller ids stays as it is
pub without_larger : (f : ℕ) (around : List ℕ) → ((g : ℕ) → IsIn g around → g < f) → filter (λ g. not (g == f)) around ≡ around
without_larger f around low = filter_whole (λ g. not (g == f)) around (λ g h. other_id f g (low g h))

-- and so it is with the new id put in and taken out
pub put_in_undone : (p f : ℕ) (around : List ℕ) → ((g : ℕ) → IsIn g around → g < f) → filter (λ g. not (g == f)) (put_in p f around) ≡ around
put_in_undone zero f around low = filter_front (λ g. not (g == f)) around (f ∷ []) (λ g h. other_id f g (low g h)) (λ g h. grind (arith, own_id))
put_in_undone (suc p) f around low = grind (arith, take-append-drop, filter_parts, own_id, other_id)

-- a list that begins with its least id is listed as it is
pub from_least_stays : (around : List ℕ) → ((g : ℕ) → IsIn g around → get_or around 0 0 ≤ g) → from_least around ≡ around
from_least_stays [] least = refl
from_least_stays (x ∷ xs) least =
    let low = least_below x xs x (inl refl) in
    grind (arith, least_in, path_place_here, eq-eqb, append-nil)

-- ---- The picture without its new edge

module _ (rows : Rows) (u v kind : ℕ) (r : Route) (good : IsWellFormed rows) (may : IsInsertable rows u v kind r) where
  abbrev after : Rows
  after = shown rows u v kind r

  abbrev gone : List ℕ
  gone = (edge_at after rows.next_edge).crossings

  gone_is : gone ≡ map (λ x. x.0) (numbered rows r)
  gone_is = ap (λ (row : EdgeRow). row.crossings) (shown_new_edge rows u v kind r good.paths)

  -- the new crossings are gone
  new_gone : (x : ℕ) (d : Dart) → IsIn (x, d) (numbered rows r) → not (has_id gone x) ≡ false
  new_gone x d h = ap (λ ids. not (has_id ids x)) gone_is
      ∙ ap not (has_id_in x (map (λ x. x.0) (numbered rows r)) (in_map (λ x. x.0) (x, d) (numbered rows r) h))

  -- the old ones are left
  old_left : (x : ℕ) → x < rows.next_crossing → not (has_id gone x) ≡ true
  old_left x low = ap (λ ids. not (has_id ids x)) gone_is ∙ elim (cases_Bool (has_id (map (λ x. x.0) (numbered rows r)) x)) [
    | inl e ↦ absurd (
        let image = in_images (λ x. x.0) x (numbered rows r) (in_has_id x (map (λ x. x.0) (numbered rows r)) e) in
        let high = new_id_above rows u v kind r image.0.0 image.0.1 image.1 in
        let same = image.2 in omega arith)
    | inr e ↦ ap not e
  ]

  -- ---- Its edges

  -- a row has its old path
  row_undone : (row : EdgeRow) → IsIn row rows.edges → uncrossed_row gone (crossed_row rows r row) ≡ row
  row_undone row h = ap (λ (path : List ℕ). record row { crossings = path }) (filter_woven (λ x. not (has_id gone x)) (new_on rows r row.id) 0 row.crossings
      (λ i x k.
      let image = in_images (λ y. y.0) x _ k in
      ap (λ n. not (has_id gone n)) image.2
      ∙ new_gone image.0.0 image.0.1 (in_filter (λ y. y.1.edge == row.id && y.1.seg == i) image.0 (numbered rows r) image.1))
      (λ x k. old_left x (known_crossing_below rows good.crossings x (crossing_there rows good.paths row h x k))))

  edges_undone : map (uncrossed_row gone) (filter (λ row. not (row.id == rows.next_edge)) after.edges) ≡ rows.edges
  edges_undone =
      ap (map (uncrossed_row gone))
      (filter_front (λ row. not (row.id == rows.next_edge)) (map (crossed_row rows r) rows.edges) (newcomer_row rows u v kind r ∷ [])
      (λ row h.
      let image = in_images (crossed_row rows r) row rows.edges h in
      ap (λ (row : EdgeRow). not (row.id == rows.next_edge)) image.2 ∙ other_id rows.next_edge image.0.id (edge_below rows good.paths image.0 image.1))
      (λ row h. grind (arith, own_id)))
      ∙ map-map (uncrossed_row gone) (crossed_row rows r) rows.edges
      ∙ map_whole (λ row. uncrossed_row gone (crossed_row rows r row)) rows.edges row_undone

  -- ---- Its crossings

  crossings_undone : filter (λ x. not (has_id gone x.id)) after.crossings ≡ rows.crossings
  crossings_undone = filter_front (λ x. not (has_id gone x.id)) rows.crossings (map (new_crossing rows.next_edge) (numbered rows r))
      (λ x h. old_left x.id (crossing_below rows good.crossings x h))
      (λ x h.
      let image = in_images (new_crossing rows.next_edge) x (numbered rows r) h in
      ap (λ (x : CrossRow). not (has_id gone x.id)) image.2 ∙ new_gone image.0.0 image.0.1 image.1)

  -- ---- Its rotations

  module _ (w : ℕ) (inside : w < length rows.rotations) where
    vertex : IsIn w (vertices rows)
    vertex = vertex_in rows w inside

    entry_below : (g : ℕ) → IsIn g (rotation rows w) → g < rows.next_edge
    entry_below g h = known_edge_below rows good.paths g ((good_rotation rows good.rotations w vertex).known g h)

    least_first : (g : ℕ) → IsIn g (rotation rows w) → get_or (rotation rows w) 0 0 ≤ g
    least_first g h = le_of (get_or (rotation rows w) 0 0) g (test_of_each (nat_le (get_or (rotation rows w) 0 0)) g (rotation rows w)
        (right_true _ _ (test_of_each (has_good_rotation rows) w (vertices rows) good.rotations vertex)) h) where
          le_of : (m n : ℕ) → nat_le m n ≡ true → m ≤ n
          le_of m n h = grind (arith, nat_tests)

    undone_by : (list : List ℕ) → rotation after w ≡ list → filter (λ g. not (g == rows.next_edge)) list ≡ rotation rows w
        → rotation (without after rows.next_edge) w ≡ rotation rows w
    undone_by list is back =
        without_rotation after rows.next_edge w
        ∙ ap (λ around. from_least (filter (λ g. not (g == rows.next_edge)) around)) is
        ∙ ap from_least back
        ∙ from_least_stays (rotation rows w) least_first

    -- a vertex that is no end of the new edge
    other_undone : w ≢ u → w ≢ v → rotation (without after rows.next_edge) w ≡ rotation rows w
    other_undone not_u not_v =
        undone_by (rotation rows w) (shown_rotation_other rows u v kind r w not_u not_v) (without_larger rows.next_edge (rotation rows w) entry_below)

    -- and one that is
    end_undone : (p : ℕ) → rotation after w ≡ put_in p rows.next_edge (rotation rows w) → rotation (without after rows.next_edge) w ≡ rotation rows w
    end_undone p is = undone_by (put_in p rows.next_edge (rotation rows w)) is (put_in_undone p rows.next_edge (rotation rows w) entry_below)

  start_undone : rotation (without after rows.next_edge) u ≡ rotation rows u
  start_undone = end_undone u may.u_there r.start (shown_rotation_start rows u v kind r may.u_there may.ends_apart)

  finish_undone : rotation (without after rows.next_edge) v ≡ rotation rows v
  finish_undone = end_undone v may.v_there r.end (shown_rotation_end rows u v kind r may.v_there may.ends_apart)

  rotation_undone : (w : ℕ) → w < length rows.rotations → rotation (without after rows.next_edge) w ≡ rotation rows w
  rotation_undone w inside = grind (arith, cases_Bool, eqb-true, start_undone, finish_undone, other_undone, ne_from)

  rotations_undone : (without after rows.next_edge).rotations ≡ rows.rotations
  rotations_undone =
      let as_many = without_vertices after rows.next_edge ∙ shown_vertices rows u v kind r in
      ext_get_or [] (without after rows.next_edge).rotations rows.rotations as_many (λ w h. rotation_undone w (omega arith))

  -- ---- All parts together

  pub insertion_undone_here : without after rows.next_edge
      ≡ record rows { next_edge = rows.next_edge + 1; next_crossing = rows.next_crossing + length r.crossed }
  insertion_undone_here = grind (arith, rotations_undone, edges_undone, crossings_undone)

-- taking out the edge that was just shown gives the picture back, but for the ids that were given
pub insertion_undone : (rows : Rows) (u v kind : ℕ) (r : Route) → IsWellFormed rows → IsInsertable rows u v kind r
    → without (shown rows u v kind r) rows.next_edge ≡ record rows { next_edge = rows.next_edge + 1; next_crossing = rows.next_crossing + length r.crossed }
insertion_undone rows u v kind r good may = insertion_undone_here rows u v kind r good may
