-- What the last tests of rows rest on: few darts, and Euler's formula on their numbers.
use Rattle.std.proofs.Common.{◌≡◌, ◌&&◌, ◌||◌, ◌+◌, ◌*◌, ◌/◌, ◌<◌, ◌≤◌, ap, arith, Bool, eqb, false, length, List, refl, suc, sym, true, ℕ, [], ◌∙◌, ◌∷◌}
use Rattle.std.specs.Bool.{IsTrue}
use Rattle.std.specs.Prelude.{flat_map, map, nat_le, slice_index_or, sum_by, ◌==◌, ◌↔◌}
use Rattle.std.specs.List.{list_any, range_with_len}
use Rattle.std.proofs.lemmas.Bool.Decides.{nat_tests}
use Rattle.std.proofs.lemmas.Bool.{eq-eqb, eqb-true, false≢true}
use Rattle.std.proofs.lemmas.List.{length-append, length-map}
use Rattle.std.proofs.lemmas.List.Folds.{list_any-append}
use Rattle.std.proofs.lemmas.List.Sums.{sum_by-cons}
use Rattle.topo_core.specs.declared.darts.Dart.{Dart}
use Rattle.topo_core.specs.declared.darts.Sign.{Sign}
use Rattle.topo_core.specs.declared.darts.Sign.TheVariants.{LeftToRight, RightToLeft}
use Rattle.topo_core.specs.declared.limits.Limits.{Limits}
use Rattle.topo_core.specs.declared.rows.CrossRow.{CrossRow}
use Rattle.topo_core.specs.declared.rows.EdgeRow.{EdgeRow}
use Rattle.topo_core.specs.declared.rows.Rows.{Rows}
use Rattle.topo_core.specs.Cycles.{is_first, is_met, map_of}
use Rattle.topo_core.specs.Lawful.{has_good_crossings, has_good_paths, HasGenusZero, IsWellFormed}
use Rattle.topo_core.specs.Picture.{around_crossing, around_vertex, clockwise, darts_of, end_dart, rotation, segment_count, system, turn_images, vertices}
use Rattle.topo_core.specs.Rotations.{face_next, faces_of, IsConnected}
use Rattle.topo_core.specs.Systems.{Connected}
use Rattle.topo_core.proofs.Interface.{darts_connected, images_length, left_true, numbers_connected}
use Rattle.topo_perm.proofs.Interface.{count_below-le}
use Rattle.topo_rows.specs.Loading.{fits}
use Rattle.topo_rows.specs.Pairs.{path_pairs}
use Rattle.topo_rows.proofs.Begins.{darts_length}
use Rattle.topo_rows.proofs.Sorting.{few_rise}

-- ---- How many darts

pub darts_total : (edges : List EdgeRow) → length (flat_map darts_of edges) ≡ 2 * sum_by segment_count edges
darts_total [] = refl
darts_total (row ∷ edges) =
    let step = sum_by-cons segment_count row edges in
    let rest = darts_total edges in omega (arith, darts_length row, length-append (darts_of row) (flat_map darts_of edges))

pub images_total : (rows : Rows) (images : List ℕ) → images ≡ turn_images rows → length images ≡ 2 * sum_by segment_count rows.edges
images_total rows images is = ap length is ∙ images_length rows ∙ darts_total rows.edges

pub segments_by_pairs : (edges : List EdgeRow) → sum_by segment_count edges ≡ length (path_pairs edges) + length edges
segments_by_pairs [] = refl
segments_by_pairs (row ∷ edges) =
    let step = sum_by-cons segment_count row edges in
    let rest = segments_by_pairs edges in
    omega (arith, length-append (map (λ x. row.id * 4294967296 + x) row.crossings) (path_pairs edges), length-map row.crossings (λ x. row.id * 4294967296 + x))

-- the rows are small enough for numbers of 32 bits
pub record IsSmall (rows : Rows) : Type 0 where
  pub segments : 2 * sum_by segment_count rows.edges < 4294967296
  pub vertices : length rows.rotations < 4294967296
  pub crossings : length rows.crossings < 4294967296

three : (a b c : Bool) → (a && b && c) ≡ true → (a ≡ true) × (b ≡ true) × (c ≡ true)
three true true true h = (refl, refl, refl)
three false b c h = cc
three true false c h = cc
three true true false h = cc

le_of : (m n : ℕ) → nat_le m n ≡ true → m ≤ n
le_of m n h = grind (arith, nat_tests)

pub is_small : (limits : Limits) (rows : Rows) → fits limits rows ≡ true → has_good_paths rows ≡ true → has_good_crossings rows ≡ true
    → length (path_pairs rows.edges) ≡ 2 * length rows.crossings → IsSmall rows
is_small limits rows fit paths crossings two = grind (arith, three, le_of, few_rise, left_true, length-map, segments_by_pairs)

-- ---- Euler's formula

pub faces_at_most : (images : List ℕ) → faces_of images ≤ length images
faces_at_most images = count_below-le (is_first (λ a b. is_met (face_next (map_of images)) (length images) a b)) (length images)

pub genus_told : (rows : Rows) (images : List ℕ) (faces vertices crossings : ℕ) → images ≡ turn_images rows → faces ≡ faces_of images
    → vertices ≡ length rows.rotations → crossings ≡ length rows.crossings
    → (IsTrue (eqb (faces + (vertices + crossings)) (length images / 2 + 2)) ↔ HasGenusZero rows)
genus_told rows images faces vertices crossings is counted v x =
    let total = images_total rows images is in
    let same : faces ≡ faces_of (turn_images rows) = counted ∙ ap faces_of is in (
      λ h. let e = eqb-true (faces + (vertices + crossings)) (length images / 2 + 2) h in omega arith,
      λ g. eq-eqb (faces + (vertices + crossings)) (length images / 2 + 2) (omega arith),
    )

-- ---- Connectedness

-- a crossing is no bare point
four_around : (rows : Rows) (x : CrossRow) → eqb (length (around_crossing rows x)) 0 ≡ false
four_around rows x = by_sign x.sign _ _ _ _ where
  by_sign : (s : Sign) (a b c d : Dart) → eqb (length (clockwise s a b c d)) 0 ≡ false
  by_sign LeftToRight a b c d = refl
  by_sign RightToLeft a b c d = refl

no_bare_crossing : (rows : Rows) (crossings : List CrossRow) → list_any (λ around. length around == 0) (map (around_crossing rows) crossings) ≡ false
no_bare_crossing rows [] = refl
no_bare_crossing rows (x ∷ xs) = ap (λ b. b || list_any (λ around. length around == 0) (map (around_crossing rows) xs)) (four_around rows x)
    ∙ no_bare_crossing rows xs

-- the vertices from the one numbered v on are bare as the rest of the lists is empty
bare_vertices : (rows : Rows) (v : ℕ) (lists : List (List ℕ)) → ((i : ℕ) → slice_index_or lists i [] ≡ rotation rows (v + i))
    → list_any (λ around. length around == 0) (map (around_vertex rows) (range_with_len v (length lists))) ≡ list_any (λ around. length around == 0) lists
bare_vertices rows v [] same = refl
bare_vertices rows v (around ∷ lists) same =
    let place : v ≡ v + 0 = omega arith in
    let here : around ≡ rotation rows v = same 0 ∙ ap (rotation rows) (sym place) in
    let long : length (around_vertex rows v) ≡ length around = length-map (rotation rows v) (end_dart rows v) ∙ ap length (sym here) in
    ap (λ n. n == 0 || list_any (λ around. length around == 0) (map (around_vertex rows) (range_with_len (v + 1) (length lists)))) long
    ∙ ap (λ b. length around == 0 || b)
    (bare_vertices rows (v + 1) lists (λ i. let next : v + suc i ≡ (v + 1) + i = omega arith in same (suc i) ∙ ap (rotation rows) next))

-- a point is bare just when a vertex's list is empty
pub bare_points : (rows : Rows) → list_any (λ around. length around == 0) (system rows) ≡ list_any (λ around. length around == 0) rows.rotations
bare_points rows =
    list_any-append (λ around. length around == 0) (map (around_vertex rows) (vertices rows)) (map (around_crossing rows) rows.crossings)
    ∙ ap (λ b. list_any (λ around. length around == 0) (map (around_vertex rows) (vertices rows)) || b) (no_bare_crossing rows rows.crossings)
    ∙ or_no (list_any (λ around. length around == 0) (map (around_vertex rows) (vertices rows)))
    ∙ bare_vertices rows 0 rows.rotations (λ i. let place : i ≡ 0 + i = omega arith in ap (rotation rows) place) where
      or_no : (b : Bool) → (b || false) ≡ b
      or_no true = refl
      or_no false = refl

-- a bare vertex parts the system
pub not_whole : (rows : Rows) → list_any (λ around. length around == 0) rows.rotations ≡ true → (IsTrue false ↔ Connected (system rows))
not_whole rows bare = (λ h. absurd (false≢true h), λ connected. sym (connected.no_bare_point) ∙ bare_points rows ∙ bare)

-- and else the numbers tell whether it is connected
pub whole_told : (rows : Rows) (images : List ℕ) (t : Bool) → IsWellFormed rows → images ≡ turn_images rows
    → list_any (λ around. length around == 0) rows.rotations ≡ false → (IsTrue t ↔ IsConnected images) → (IsTrue t ↔ Connected (system rows))
whole_told rows images t good is full tells = grind (arith, bare_points, darts_connected, numbers_connected)
