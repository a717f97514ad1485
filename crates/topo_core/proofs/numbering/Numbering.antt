-- The darts of an embedding as numbers: what turns, twins and moves are on darts, they are on the numbers.
use Rattle.std.proofs.Common.{◌≡◌, ◌+◌, ◌<◌, ap, arith, Bool, cond, false, inl, inr, length, List}
use Rattle.std.proofs.Common.{not, refl, Some, subst, suc, sym, true, zero, ℕ, [], ◌++◌, ◌∙◌, ◌∷◌}
use Rattle.std.specs.Prelude.{flat_map, map, slice_get, slice_index, ◌%◌}
use Rattle.std.specs.List.{position_or_len, range_with_len}
use Rattle.std.proofs.lemmas.Bool.Decides.{nat_tests}
use Rattle.std.proofs.lemmas.List.{length-map}
use Rattle.std.proofs.lemmas.List.Sums.{sum_by-cons}
use Rattle.std.proofs.lemmas.Bool.{cases_Bool, false≢true, or_left, or_right}
use Rattle.topo_core.specs.declared.darts.Dart.{Dart}
use Rattle.topo_core.specs.declared.darts.Way.TheVariants.{Forward}
use Rattle.topo_core.specs.declared.rows.EdgeRow.{EdgeRow}
use Rattle.topo_core.specs.declared.rows.Rows.{Rows}
use Rattle.topo_core.specs.Cycles.{IsPermutationList, map_of}
use Rattle.topo_core.specs.Darts.{both_ways, dart_twin, same_dart}
use Rattle.topo_core.specs.Lawful.{has_good_crossings, has_good_paths, has_good_rotations}
use Rattle.topo_core.specs.Picture.{darts, darts_of, index_of, segment_count, system, turn_images}
use Rattle.topo_core.specs.Rotations.{twin}
use Rattle.topo_core.specs.Systems.{darts_in, has_dart, turn}
use Rattle.topo_core.proofs.numbering.Counting.{any_counted, at_most_one, one}
use Rattle.topo_core.proofs.numbering.DartLaws.{same_dart_self, same_dart_true, twin-twin, twin_apart}
use Rattle.topo_core.proofs.numbering.Members.{or_second}
use Rattle.topo_core.proofs.numbering.Standing.{is_of_rows, listed_once, stands_once, system_test}
use Rattle.topo_core.proofs.systems.SystemDarts.{get_there}
use Rattle.topo_core.proofs.systems.Turning.{IsDistinct, turn_apart, turn_in}

-- ---- Places in a list of darts

-- the place of d in a list, or its length
abbrev pub place_in : List Dart → Dart → ℕ
place_in ds d = position_or_len (same_dart d) ds

-- d is the head
pub place_here : (ds : List Dart) (c d : Dart) → same_dart d c ≡ true → place_in (c ∷ ds) d ≡ 0
place_here ds c d e = ap (λ (t : Bool). cond {A = ℕ} (not t) (1 + place_in ds d) 0) e

-- d is not the head
pub place_later : (ds : List Dart) (c d : Dart) → same_dart d c ≡ false → place_in (c ∷ ds) d ≡ 1 + place_in ds d
place_later ds c d e = ap (λ (t : Bool). cond {A = ℕ} (not t) (1 + place_in ds d) 0) e

get_next : (ds : List Dart) (c : Dart) (n : ℕ) → slice_get (c ∷ ds) (1 + n) ≡ slice_get ds n
get_next ds c n = let e : 1 + n ≡ suc n = omega arith in ap (slice_get (c ∷ ds)) e

-- d stands at its place
pub get_place : (ds : List Dart) (d : Dart) → has_dart ds d ≡ true → slice_get ds (place_in ds d) ≡ Some d
get_place [] d h = cc
get_place (c ∷ ds) d h = elim (cases_Bool (same_dart d c)) [
  | inl e ↦ ap (slice_get (c ∷ ds)) (place_here ds c d e) ∙ ap Some (sym (same_dart_true d c e))
  | inr e ↦ ap (slice_get (c ∷ ds)) (place_later ds c d e) ∙ get_next ds c (place_in ds d) ∙ get_place ds d (or_second (same_dart d c) (has_dart ds d) e h)
]

-- what stands at a place is in the list
pub has_at : (ds : List Dart) (i : ℕ) (d : Dart) → slice_get ds i ≡ Some d → has_dart ds d ≡ true
has_at [] i d e = cc
has_at (c ∷ ds) zero d e = let same : c ≡ d = cc in or_left (same_dart d c) (has_dart ds d) (ap (same_dart d) same ∙ same_dart_self d)
has_at (c ∷ ds) (suc i) d e = or_right (same_dart d c) (has_dart ds d) (has_at ds i d e)

-- in a list that has no dart twice, what stands at a place has that place
pub place_of_get : (ds : List Dart) → IsDistinct ds → (i : ℕ) (d : Dart) → slice_get ds i ≡ Some d → place_in ds d ≡ i
place_of_get [] distinct i d e = cc
place_of_get (c ∷ ds) distinct zero d e = let same : c ≡ d = cc in place_here ds c d (ap (same_dart d) same ∙ same_dart_self d)
place_of_get (c ∷ ds) distinct (suc i) d e =
    let step = λ (y : Dart). sum_by-cons (λ b. one (same_dart y b)) c ds in
    elim (cases_Bool (same_dart d c)) [
      | inl same ↦ absurd (
          let sum = step d in
          let here : one (same_dart d c) ≡ 1 = ap one same in
          let more = any_counted (same_dart d) ds (has_at ds i d e) in
          let most = distinct.once d in omega arith)
      | inr apart ↦
          let rest = place_of_get ds (record { once = λ y. let sum = step y in let most = distinct.once y in omega arith }) i d e in
          let next = place_later ds c d apart in omega arith
    ]

-- the place of a dart of the list is below its length
pub place_less : (ds : List Dart) (d : Dart) → has_dart ds d ≡ true → place_in ds d < length ds
place_less [] d h = cc
place_less (c ∷ ds) d h = elim (cases_Bool (same_dart d c)) [
  | inl e ↦ let here = place_here ds c d e in omega arith
  | inr e ↦ let next = place_later ds c d e in let rest = place_less ds d (or_second (same_dart d c) (has_dart ds d) e h) in omega arith
]

index_of_map : (f : Dart → ℕ) (ds : List Dart) (i : ℕ) (d : Dart) → slice_get ds i ≡ Some d → slice_index (map f ds) i ≡ f d
index_of_map f [] i d e = cc
index_of_map f (c ∷ ds) zero d e = let same : c ≡ d = cc in ap f same
index_of_map f (c ∷ ds) (suc i) d e = index_of_map f ds i d e

-- ---- Twins stand side by side

-- each dart at an even place leads forward and is followed by its twin
abbrev pub IsPaired : List Dart → Type 0
IsPaired [] = Unit {0}
IsPaired (c ∷ []) = ⊥
IsPaired (c ∷ d ∷ ds) = (c.way ≡ Forward) × (d ≡ dart_twin c) × IsPaired ds

paired_append : (xs ys : List Dart) → IsPaired xs → IsPaired ys → IsPaired (xs ++ ys)
paired_append [] ys h k = k
paired_append (c ∷ []) ys h k = absurd h
paired_append (c ∷ d ∷ xs) ys h k = (h.0, h.1, paired_append xs ys h.2 k)

paired_segments : (e : ℕ) (segments : List ℕ) → IsPaired (flat_map (both_ways e) segments)
paired_segments e [] = tt
paired_segments e (s ∷ segments) = (refl, refl, paired_segments e segments)

paired_edges : (edges : List EdgeRow) → IsPaired (flat_map darts_of edges)
paired_edges [] = tt
paired_edges (row ∷ edges) = paired_append (darts_of row) (flat_map darts_of edges) (paired_segments row.id (range_with_len 0 (segment_count row)))
    (paired_edges edges)

even_step : (n : ℕ) → n % 2 ≡ 0 → suc (suc n) % 2 ≡ 0
even_step n e = omega arith

-- lists of pairs have even length
pub paired_even : (ds : List Dart) → IsPaired ds → length ds % 2 ≡ 0
paired_even [] h = refl
paired_even (c ∷ []) h = absurd h
paired_even (c ∷ d ∷ ds) h = even_step (length ds) (paired_even ds h.2)

twin_step : (n : ℕ) → twin (1 + (1 + n)) ≡ 1 + (1 + twin n)
twin_step n = grind (arith, nat_tests)

same_from : (c d : Dart) → c ≡ d → same_dart c d ≡ true
same_from c d e = ap (same_dart c) (sym e) ∙ same_dart_self c

-- different darts fail the test
pub not_same : (c d : Dart) → (c ≡ d → ⊥) → same_dart c d ≡ false
not_same c d apart = elim (cases_Bool (same_dart c d)) [ inl e ↦ absurd (apart (same_dart_true c d e)) | inr e ↦ e ]

-- the place of the twin is the twin of the place
pub place_twin : (ds : List Dart) → IsPaired ds → (d : Dart) → has_dart ds d ≡ true → (place_in ds (dart_twin d) ≡ twin (place_in ds d))
    × (has_dart ds (dart_twin d) ≡ true)
place_twin [] h d there = cc
place_twin (c ∷ []) h d there = absurd h
place_twin (c ∷ b ∷ ds) h d there = elim (cases_Bool (same_dart d c)) [
  | inl e ↦ grind (arith, same_dart_true, not_same, twin_apart, same_from, place_later, place_here, or_right, or_left)
  | inr not_c ↦ elim (cases_Bool (same_dart d b)) [
    | inl e ↦ grind (arith, same_dart_true, same_from, twin-twin, place_later, place_here, or_left)
    | inr not_b ↦
        let twin_not_c : same_dart (dart_twin d) c ≡ false =
        not_same (dart_twin d) c (λ k. false≢true (sym not_b ∙ same_from d b (sym (twin-twin d) ∙ ap dart_twin k ∙ sym h.1))) in
        let twin_not_b : same_dart (dart_twin d) b ≡ false =
        not_same (dart_twin d) b (λ k. false≢true (sym not_c ∙ same_from d c (sym (twin-twin d) ∙ ap dart_twin (k ∙ h.1) ∙ twin-twin c))) in
        let inside = or_second (same_dart d b) (has_dart ds d) not_b (or_second (same_dart d c) (has_dart (b ∷ ds) d) not_c there) in
        let rest = place_twin ds h.2 d inside in
        grind (arith, place_later, twin_step, or_right)
  ]
]

-- forward darts stand at even places
pub forward_even : (ds : List Dart) → IsPaired ds → (d : Dart) → has_dart ds d ≡ true → d.way ≡ Forward → place_in ds d % 2 ≡ 0
forward_even [] h d there forward = cc
forward_even (c ∷ []) h d there forward = absurd h
forward_even (c ∷ b ∷ ds) h d there forward = elim (cases_Bool (same_dart d c)) [
  | inl e ↦ ap (λ n. n % 2) (place_here (b ∷ ds) c d e)
  | inr not_c ↦ elim (cases_Bool (same_dart d b)) [
    | inl e ↦ grind (arith, same_dart_true)
    | inr not_b ↦
        let inside = or_second (same_dart d b) (has_dart ds d) not_b (or_second (same_dart d c) (has_dart (b ∷ ds) d) not_c there) in
        let rest = forward_even ds h.2 d inside forward in
        grind (arith, place_later)
  ]
]

-- ---- The darts of good rows

-- twins are darts of the rows too, and stand side by side
pub twin_in : (rows : Rows) (d : Dart) → has_dart (darts rows) d ≡ true → has_dart (darts rows) (dart_twin d) ≡ true
twin_in rows d h = (place_twin (darts rows) (paired_edges rows.edges) d h).1

-- the number of the twin is the twin of the number
pub index_twin : (rows : Rows) (d : Dart) → has_dart (darts rows) d ≡ true → index_of rows (dart_twin d) ≡ twin (index_of rows d)
index_twin rows d h = (place_twin (darts rows) (paired_edges rows.edges) d h).0

-- forward darts have even numbers
pub index_forward : (rows : Rows) (d : Dart) → has_dart (darts rows) d ≡ true → d.way ≡ Forward → index_of rows d % 2 ≡ 0
index_forward rows d h forward = forward_even (darts rows) (paired_edges rows.edges) d h forward

-- as many images as darts
pub images_length : (rows : Rows) → length (turn_images rows) ≡ length (darts rows)
images_length rows = length-map (darts rows) (λ d. index_of rows (turn (system rows) d))

-- an even number of them
pub even_images : (rows : Rows) → length (turn_images rows) % 2 ≡ 0
even_images rows = ap (λ n. n % 2) (images_length rows) ∙ paired_even (darts rows) (paired_edges rows.edges)

module _ (rows : Rows) (paths : has_good_paths rows ≡ true) where
  -- no dart is listed twice
  pub distinct_darts : IsDistinct (darts rows)
  distinct_darts = record { once = λ d. at_most_one (is_of_rows rows d) _ (listed_once rows paths d) }

  -- the number of the dart with number i is i
  pub index_of_get : (i : ℕ) (d : Dart) → slice_get (darts rows) i ≡ Some d → index_of rows d ≡ i
  index_of_get i d e = place_of_get (darts rows) distinct_darts i d e

  -- the dart with the number of d is d
  pub get_index : (d : Dart) → has_dart (darts rows) d ≡ true → slice_get (darts rows) (index_of rows d) ≡ Some d
  get_index d h = get_place (darts rows) d h

  -- darts with the same number are the same
  pub index_apart : (c d : Dart) → has_dart (darts rows) c ≡ true → has_dart (darts rows) d ≡ true → index_of rows c ≡ index_of rows d → c ≡ d
  index_apart c d c_in d_in e =
      let same : Some c ≡ Some d = sym (get_index c c_in) ∙ ap (slice_get (darts rows)) e ∙ get_index d d_in in cc

  -- the images hold the number of the next dart
  pub image_of : (d : Dart) → has_dart (darts rows) d ≡ true → map_of (turn_images rows) (index_of rows d) ≡ index_of rows (turn (system rows) d)
  image_of d h = index_of_map (λ d. index_of rows (turn (system rows) d)) (darts rows) (index_of rows d) d (get_index d h)

  module _ (crossings : has_good_crossings rows ≡ true) (rotations : has_good_rotations rows ≡ true) where
    -- and none stands twice
    pub distinct_system : IsDistinct (darts_in (system rows))
    distinct_system = record { once = λ d. at_most_one (is_of_rows rows d) _ (stands_once rows paths crossings rotations d) }

    -- the turn leads from darts of the rows to darts of the rows
    pub turn_stays : (d : Dart) → has_dart (darts rows) d ≡ true → has_dart (darts rows) (turn (system rows) d) ≡ true
    turn_stays d h = sym (system_test rows paths crossings rotations (turn (system rows) d))
        ∙ turn_in (system rows) d (system_test rows paths crossings rotations d ∙ h)

    -- and no two of them to the same
    pub turns_apart : (c d : Dart) → has_dart (darts rows) c ≡ true → has_dart (darts rows) d ≡ true → turn (system rows) c ≡ turn (system rows) d → c ≡ d
    turns_apart c d c_in d_in e =
        turn_apart (system rows) distinct_system c d (system_test rows paths crossings rotations c ∙ c_in)
        (system_test rows paths crossings rotations d ∙ d_in) e

    -- the dart with a number
    pub dart_at : (i : ℕ) → i < length (turn_images rows) → (d : Dart) × (slice_get (darts rows) i ≡ Some d)
    dart_at i h = get_there (darts rows) i (subst (λ n. i < n) (images_length rows) h)

    pub image_at : (i : ℕ) (d : Dart) → slice_get (darts rows) i ≡ Some d → map_of (turn_images rows) i ≡ index_of rows (turn (system rows) d)
    image_at i d e = index_of_map (λ d. index_of rows (turn (system rows) d)) (darts rows) i d e

    -- numbers are below the number of images
    pub index_less : (d : Dart) → has_dart (darts rows) d ≡ true → index_of rows d < length (turn_images rows)
    index_less d h = subst (λ n. index_of rows d < n) (sym (images_length rows)) (place_less (darts rows) d h)

    -- the images of the turn are a permutation
    pub turn_permutes : IsPermutationList (turn_images rows)
    turn_permutes = record {
      within = λ i h.
          let at = dart_at i h in
          subst (λ n. n < length (turn_images rows)) (sym (image_at i at.0 at.1))
          (index_less (turn (system rows) at.0) (turn_stays at.0 (has_at (darts rows) i at.0 at.1)));
      apart = λ i j h k e.
          let c = dart_at i h in
          let d = dart_at j k in
          let c_in = has_at (darts rows) i c.0 c.1 in
          let d_in = has_at (darts rows) j d.0 d.1 in
          let turned : turn (system rows) c.0 ≡ turn (system rows) d.0 = index_apart (turn (system rows) c.0) (turn (system rows) d.0) (turn_stays c.0 c_in)
          (turn_stays d.0 d_in) (sym (image_at i c.0 c.1) ∙ e ∙ image_at j d.0 d.1) in
          sym (index_of_get i c.0 c.1) ∙ ap (index_of rows) (turns_apart c.0 d.0 c_in d_in turned) ∙ index_of_get j d.0 d.1;
    }
