-- The points of a picture without bare points are the cycles of its turn.
use Rattle.std.proofs.Common.{◌≡◌, ◌+◌, ◌<◌, ap, arith, Bool, cond, false, inl, inr, length, List, refl, suc, sym, true, zero, ℕ, [], ◌∙◌, ◌∷◌}
use Rattle.std.specs.Prelude.{map, slice_get, slice_index_or, Some, ◌==◌, ◌||◌}
use Rattle.std.specs.List.{list_any, range_with_len}
use Rattle.std.proofs.lemmas.Bool.{cases_Bool, eq-eqb, eqb-true, false≢true}
use Rattle.std.proofs.lemmas.List.{length-append, length-map}
use Rattle.topo_core.specs.declared.darts.Dart.{Dart}
use Rattle.topo_core.specs.declared.rows.Rows.{Rows}
use Rattle.topo_core.specs.Cycles.{after, class_count, count_below, cycles_of, is_first, is_met, IsPermutation}
use Rattle.topo_core.specs.Darts.{same_dart}
use Rattle.topo_core.specs.Items.{IsIn}
use Rattle.topo_core.specs.Lawful.{IsWellFormed}
use Rattle.topo_core.specs.Picture.{around_crossing, around_vertex, darts, index_of, system, turn_images, vertices}
use Rattle.topo_core.specs.Systems.{darts_in, follower, has_dart, System, turn}
use Rattle.topo_core.proofs.Interface.{IsDistinct, SameCycle-is_met, after_carried, at_point_in, distinct_right, distinct_system, distinct_tail, eqb_less, get_place, has_at, has_dart-append}
use Rattle.topo_core.proofs.Interface.{head_not_later, index_apart, is_met-SameCycle, not_in_both, or_left_false, or_right_false, or_second, place_in, point_distinct, same_dart_self, same_dart_true}
use Rattle.topo_core.proofs.Interface.{stands_in, system_test, turn_at, turn_at_point, turn_carried, turn_in, turn_permutes}
use Rattle.topo_perm.specs.Renumbering.{IsEquivalence}
use Rattle.topo_perm.proofs.Interface.{class_count-carries, is_first-from, is_met-equivalence}
use Rattle.topo_kept_rows.proofs.inserting.InsertedNumbers.{count, dart_here, dart_of, number_less, number_of, turns}

-- ---- Equal numbers

all_counted : (p : ℕ → Bool) (n : ℕ) → ((a : ℕ) → p a ≡ true) → count_below p n ≡ n
all_counted p zero all = refl
all_counted p (suc n) all =
    let rest = all_counted p n all in
    let here : cond {A = ℕ} (p n) 1 0 ≡ 1 = ap (λ (b : Bool). cond {A = ℕ} b 1 0) (all n) in omega arith

-- equality has as many classes as there are numbers
equal_classes : (n : ℕ) → class_count (λ a b. a == b) n ≡ n
equal_classes n = all_counted (is_first (λ a b. a == b)) n (λ a. is_first-from (λ a b. a == b) a (λ b below. eqb_less b a below))

equality_equivalence : (n : ℕ) → IsEquivalence (λ a b. a == b) n
equality_equivalence n = grind (arith, eq-eqb, eqb-true)

-- ---- Steps round a point

-- a dart is followed by the one behind it
follower_at : (first : Dart) (ds : List Dart) (k : ℕ) (c d : Dart) → IsDistinct ds → slice_get ds k ≡ Some c → slice_get ds (suc k) ≡ Some d
    → follower first ds c ≡ d
follower_at first [] k c d distinct e h = cc
follower_at first (b ∷ []) zero c d distinct e h = cc
follower_at first (b ∷ a ∷ ds) zero c d distinct e h = grind (arith, same_dart_self)
follower_at first (b ∷ ds) (suc k) c d distinct e h =
    let apart : same_dart c b ≡ false = elim (cases_Bool (same_dart c b)) [
      | inl is ↦ absurd (false≢true (sym (head_not_later b ds distinct) ∙ ap (has_dart ds) (sym (same_dart_true c b is)) ∙ has_at ds k c e))
      | inr differs ↦ differs
    ] in ap (λ (t : Bool). cond t (slice_index_or ds 0 first) (follower first ds c)) apart ∙ follower_at first ds k c d (distinct_tail b ds distinct) e h

-- what stands before a place
before_it : (ds : List Dart) (k : ℕ) (d : Dart) → slice_get ds (suc k) ≡ Some d → (c : Dart) × (slice_get ds k ≡ Some c)
before_it [] k d h = cc
before_it (b ∷ ds) zero d h = (b, refl)
before_it (b ∷ ds) (suc k) d h = before_it ds k d h

module _ (s : System) (distinct : IsDistinct (darts_in s)) (around : List Dart) (at : IsIn around s) where
  -- k turns lead from the first dart to the one at place k
  turns_to : (k : ℕ) (first d : Dart) → slice_get around 0 ≡ Some first → slice_get around k ≡ Some d → after (turn s) k first ≡ d
  turns_to zero first d e h = let same : Some first ≡ Some d = sym e ∙ h in cc
  turns_to (suc k) first d e h =
      let c = before_it around k d h in
      ap (turn s) (turns_to k first c.0 e c.1)
      ∙ turn_at_point s distinct around c.0 at (has_at around k c.0 c.1)
      ∙ follower_at (slice_index_or around 0 c.0) around k c.0 d (point_distinct s around distinct at) c.1 h

  turn_stays_there : (d : Dart) → has_dart around d ≡ true → has_dart around (turn s d) ≡ true
  turn_stays_there d h =
      let whole : (y : Dart) → stands_in (around ∷ []) y ≡ has_dart around y = λ y. has_dart-append around [] y ∙ or_no (has_dart around y) in
      ap (has_dart around) (turn_at_point s distinct around d at h ∙ sym (turn_at around [] d h))
      ∙ sym (whole (turn (around ∷ []) d)) ∙ turn_in (around ∷ []) d (whole d ∙ h) where
        or_no : (b : Bool) → (b || false) ≡ b
        or_no true = refl
        or_no false = refl

  -- turns stay round the point
  turns_stay : (k : ℕ) (d : Dart) → has_dart around d ≡ true → has_dart around (after (turn s) k d) ≡ true
  turns_stay zero d h = h
  turns_stay (suc k) d h = turn_stays_there (after (turn s) k d) (turns_stay k d h)

-- ---- The numbers of the points

-- the point of a number
abbrev point : System → ℕ → List Dart
point s i = slice_index_or s i []

point_in : (s : System) (i : ℕ) → i < length s → IsIn (point s i) s
point_in [] i h = absurd (omega arith)
point_in (around ∷ s) zero h = inl refl
point_in (around ∷ s) (suc i) h = inr (point_in s i (omega arith))

point_full : (s : System) → list_any (λ around. length around == 0) s ≡ false → (i : ℕ) → i < length s → (length (point s i) == 0) ≡ false
point_full [] full i h = absurd (omega arith)
point_full (around ∷ s) full zero h = or_left_false (length around == 0) (list_any (λ around. length around == 0) s) full
point_full (around ∷ s) full (suc i) h = point_full s (or_right_false (length around == 0) (list_any (λ around. length around == 0) s) full) i (omega arith)

-- points with one dart have one number
one_point : (s : System) → IsDistinct (darts_in s) → (i j : ℕ) (d : Dart) → i < length s → j < length s → has_dart (point s i) d ≡ true
    → has_dart (point s j) d ≡ true → i ≡ j
one_point [] distinct i j d li lj h k = absurd (omega arith)
one_point (around ∷ s) distinct zero zero d li lj h k = refl
one_point (around ∷ s) distinct zero (suc j) d li lj h k =
    absurd (not_in_both around (darts_in s) d distinct h (at_point_in s (point s j) d (point_in s j (omega arith)) k))
one_point (around ∷ s) distinct (suc i) zero d li lj h k =
    absurd (not_in_both around (darts_in s) d distinct k (at_point_in s (point s i) d (point_in s i (omega arith)) h))
one_point (around ∷ s) distinct (suc i) (suc j) d li lj h k =
    ap suc (one_point s (distinct_right around (darts_in s) distinct) i j d (omega arith) (omega arith) h k)

-- the number of the point of a dart
point_number : System → Dart → ℕ
point_number [] d = 0
point_number (around ∷ s) d = cond {A = ℕ} (has_dart around d) 0 (suc (point_number s d))

point_numbered : (s : System) (d : Dart) → stands_in s d ≡ true → (point_number s d < length s) × (has_dart (point s (point_number s d)) d ≡ true)
unfolding point_number
point_numbered [] d h = cc
point_numbered (around ∷ s) d h = elim (cases_Bool (has_dart around d)) [
  | inl e ↦ grind (arith, point_number, point)
  | inr e ↦
      let later : point_number (around ∷ s) d ≡ suc (point_number s d) = ap (λ (t : Bool). cond {A = ℕ} t 0 (suc (point_number s d))) e in
      let rest = point_numbered s d (or_second (has_dart around d) (stands_in s d) e (sym (has_dart-append around (darts_in s) d) ∙ h)) in
      let less = rest.0 in
      (omega arith, ap (λ i. has_dart (point (around ∷ s) i) d) later ∙ rest.1)
]

-- ---- Points as cycles

module _ (rows : Rows) (good : IsWellFormed rows) (full : list_any (λ around. length around == 0) (system rows) ≡ false) where
  -- the first dart of a point
  abbrev first_dart : ℕ → Dart
  first_dart i = slice_index_or (point (system rows) i) 0 (dart_of rows good 0)

  first_there : (i : ℕ) → i < length (system rows) → slice_get (point (system rows) i) 0 ≡ Some (first_dart i)
  first_there i h = by_list (point (system rows) i) (point_full (system rows) full i h) where
    by_list : (ds : List Dart) → (length ds == 0) ≡ false → slice_get ds 0 ≡ Some (slice_index_or ds 0 (dart_of rows good 0))
    by_list [] e = absurd (false≢true (sym e ∙ eq-eqb 0 0 refl))
    by_list (d ∷ ds) e = refl

  first_round : (i : ℕ) → i < length (system rows) → has_dart (point (system rows) i) (first_dart i) ≡ true
  first_round i h = has_at (point (system rows) i) 0 (first_dart i) (first_there i h)

  distinct : IsDistinct (darts_in (system rows))
  distinct = distinct_system rows good.paths good.crossings good.rotations

  round_here : (i : ℕ) (d : Dart) → i < length (system rows) → has_dart (point (system rows) i) d ≡ true → has_dart (darts rows) d ≡ true
  round_here i d h k = sym (system_test rows good.paths good.crossings good.rotations d)
      ∙ at_point_in (system rows) (point (system rows) i) d (point_in (system rows) i h) k

  permutes : IsPermutation (turns rows good) (count rows good)
  permutes = turn_permutes rows good.paths good.crossings good.rotations

  abbrev number : ℕ → ℕ
  number i = index_of rows (first_dart i)

  -- k steps on numbers are k turns
  steps : (k : ℕ) (d : Dart) → has_dart (darts rows) d ≡ true → after (turns rows good) k (index_of rows d) ≡ index_of rows (after (turn (system rows)) k d)
  steps k d h = (after_carried (index_of rows) (λ d. has_dart (darts rows) d ≡ true) (turn (system rows)) (turns rows good)
      (turn_carried rows good.paths good.crossings good.rotations) k d h).1

  -- the cycle of a point's first dart holds each dart of the point
  meets_round : (i : ℕ) (d : Dart) → i < length (system rows) → has_dart (point (system rows) i) d ≡ true
      → is_met (turns rows good) (count rows good) (number i) (index_of rows d) ≡ true
  meets_round i d h k =
      let there = first_round i h in
      SameCycle-is_met (turns rows good) (count rows good) permutes (number i) (index_of rows d)
      (number_less rows good (first_dart i) (round_here i (first_dart i) h there)) (record {
        steps = place_in (point (system rows) i) d;
        leads = steps (place_in (point (system rows) i) d) (first_dart i) (round_here i (first_dart i) h there)
            ∙ ap (index_of rows) (turns_to (system rows) distinct (point (system rows) i) (point_in (system rows) i h) (place_in (point (system rows) i) d)
            (first_dart i) d (first_there i h) (get_place (point (system rows) i) d k));
      })

  -- and no other
  met_round : (i j : ℕ) → i < length (system rows) → j < length (system rows) → is_met (turns rows good) (count rows good) (number i) (number j) ≡ true → i ≡ j
  met_round i j li lj e =
      let cycle = is_met-SameCycle (turns rows good) (count rows good) (number i) (number j) e in
      let there = first_round i li in
      let stays : has_dart (point (system rows) i) (after (turn (system rows)) cycle.steps (first_dart i)) ≡ true =
      turns_stay (system rows) distinct (point (system rows) i) (point_in (system rows) i li) cycle.steps (first_dart i) there in
      let is_first_of : after (turn (system rows)) cycle.steps (first_dart i) ≡ first_dart j =
      index_apart rows good.paths (after (turn (system rows)) cycle.steps (first_dart i)) (first_dart j)
      (round_here i (after (turn (system rows)) cycle.steps (first_dart i)) li stays) (round_here j (first_dart j) lj (first_round j lj))
      (sym (steps cycle.steps (first_dart i) (round_here i (first_dart i) li there)) ∙ cycle.leads) in
      one_point (system rows) distinct i j (first_dart j) li lj (ap (has_dart (point (system rows) i)) (sym is_first_of) ∙ stays) (first_round j lj)

  tests_alike : (i j : ℕ) → i < length (system rows) → j < length (system rows) → is_met (turns rows good) (count rows good) (number i) (number j) ≡ (i == j)
  tests_alike i j li lj = elim (cases_Bool (i == j)) [
    | inl e ↦ ap (λ n. is_met (turns rows good) (count rows good) (number i) (number n)) (sym (eqb-true i j e))
        ∙ meets_round i (first_dart i) li (first_round i li) ∙ sym e
    | inr e ↦ elim (cases_Bool (is_met (turns rows good) (count rows good) (number i) (number j))) [
      | inl met ↦ absurd (false≢true (sym e ∙ eq-eqb i j (met_round i j li lj met)))
      | inr unmet ↦ unmet ∙ sym e
    ]
  ]

  stands : (y : ℕ) → y < count rows good → stands_in (system rows) (dart_of rows good y) ≡ true
  stands y h = system_test rows good.paths good.crossings good.rotations (dart_of rows good y) ∙ dart_here rows good y h

  system_length : length (system rows) ≡ length rows.rotations + length rows.crossings
  system_length =
      let joined = length-append (map (around_vertex rows) (vertices rows)) (map (around_crossing rows) rows.crossings) in
      let first = length-map (vertices rows) (around_vertex rows) in
      let second = length-map rows.crossings (around_crossing rows) in
      let range : length (vertices rows) ≡ length rows.rotations = range_length 0 (length rows.rotations) in omega arith where
        range_length : (a n : ℕ) → length (range_with_len a n) ≡ n
        range_length a zero = refl
        range_length a (suc n) = let rest = range_length (a + 1) n in omega arith

  all_cycles : length (system rows) ≡ cycles_of (turn_images rows)
  all_cycles = sym (equal_classes (length (system rows)))
      ∙ class_count-carries number (λ a b. a == b) (is_met (turns rows good) (count rows good)) (length (system rows)) (count rows good)
      (equality_equivalence (length (system rows))) (is_met-equivalence (turns rows good) (count rows good) permutes) (record {
        within = λ i h. number_less rows good (first_dart i) (round_here i (first_dart i) h (first_round i h));
        same = tests_alike;
        from = λ y. point_number (system rows) (dart_of rows good y);
        from_within = λ y h. (point_numbered (system rows) (dart_of rows good y) (stands y h)).0;
        meets = λ y h.
            let at = point_numbered (system rows) (dart_of rows good y) (stands y h) in
            ap (is_met (turns rows good) (count rows good) (number (point_number (system rows) (dart_of rows good y)))) (sym (number_of rows good y h))
            ∙ meets_round (point_number (system rows) (dart_of rows good y)) (dart_of rows good y) at.0 at.1;
      })

-- the points of a picture without bare points are the cycles of its turn
pub points_are_cycles : (rows : Rows) → IsWellFormed rows → list_any (λ around. length around == 0) (system rows) ≡ false
    → cycles_of (turn_images rows) ≡ length rows.rotations + length rows.crossings
points_are_cycles rows good full = sym (all_cycles rows good full) ∙ system_length rows good full
