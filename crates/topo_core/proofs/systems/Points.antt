-- The turn round one point of a system, and lists of darts under maps and tests.
use Rattle.std.proofs.Common.{◌≡◌, ◌≤◌, ◌||◌, ap, arith, Bool, cond, false, inl, inr, List, refl, sym, true, [], ◌++◌, ◌∙◌, ◌∷◌}
use Rattle.std.specs.Prelude.{count_by, filter, map, slice_index_or}
use Rattle.std.proofs.lemmas.List.{map-append}
use Rattle.std.proofs.Math.ListN.{get_or-map}
use Rattle.std.proofs.lemmas.List.Elements.{filter-append}
use Rattle.std.proofs.lemmas.List.Sums.{sum_by-cons}
use Rattle.std.proofs.lemmas.Bool.{cases_Bool, or_cases, or_left, or_right}
use Rattle.topo_core.specs.declared.darts.Dart.{Dart}
use Rattle.topo_core.specs.Darts.{same_dart}
use Rattle.topo_core.specs.Items.{IsIn}
use Rattle.topo_core.specs.Systems.{darts_in, follower, has_dart, System, turn}
use Rattle.topo_core.proofs.numbering.Counting.{one}
use Rattle.topo_core.proofs.numbering.DartLaws.{same_dart_self, same_dart_true}
use Rattle.topo_core.proofs.numbering.Members.{in_map, or_second}
use Rattle.topo_core.proofs.systems.NewDarts.{has_dart-append, stands_in, turn_at, turn_past}
use Rattle.topo_core.proofs.systems.Turning.{distinct_right, distinct_tail, IsDistinct, next_around, not_in_both}

-- ---- The point of a dart

-- the point where a dart of the system stands
pub point_of : (s : System) (d : Dart) → stands_in s d ≡ true → (around : List Dart) × IsIn around s × (has_dart around d ≡ true)
point_of [] d h = cc
point_of (around ∷ s) d h = elim (cases_Bool (has_dart around d)) [
  | inl e ↦ (around, inl refl, e)
  | inr e ↦ let rest = point_of s d (or_second (has_dart around d) (stands_in s d) e (sym (has_dart-append around (darts_in s) d) ∙ h)) in
      (rest.0, inr rest.1, rest.2)
]

-- what stands at a point stands in the system
pub at_point_in : (s : System) (around : List Dart) (d : Dart) → IsIn around s → has_dart around d ≡ true → stands_in s d ≡ true
at_point_in [] around d at h = absurd at
at_point_in (first ∷ s) around d (inl e) h = has_dart-append first (darts_in s) d
    ∙ or_left (has_dart first d) (stands_in s d) (ap (λ ds. has_dart ds d) (sym e) ∙ h)
at_point_in (first ∷ s) around d (inr k) h = has_dart-append first (darts_in s) d ∙ or_right (has_dart first d) (stands_in s d) (at_point_in s around d k h)

-- where no dart stands twice, the turn of a dart is the next one round its point
pub turn_at_point : (s : System) → IsDistinct (darts_in s) → (around : List Dart) (d : Dart) → IsIn around s → has_dart around d ≡ true
    → turn s d ≡ next_around around d
turn_at_point [] distinct around d at h = absurd at
turn_at_point (first ∷ s) distinct around d (inl e) h = turn_at first s d (ap (λ ds. has_dart ds d) (sym e) ∙ h) ∙ ap (λ ds. next_around ds d) (sym e)
turn_at_point (first ∷ s) distinct around d (inr k) h =
    let elsewhere : has_dart first d ≡ false = elim (cases_Bool (has_dart first d)) [
      | inl here ↦ absurd (not_in_both first (darts_in s) d distinct here (at_point_in s around d k h))
      | inr e ↦ e
    ] in turn_past first s d elsewhere ∙ turn_at_point s (distinct_right first (darts_in s) distinct) around d k h

-- ---- Images

-- the image of a dart of the list is a dart of the images
pub has_image : (g : Dart → Dart) (ds : List Dart) (d : Dart) → has_dart ds d ≡ true → has_dart (map g ds) (g d) ≡ true
has_image g [] d h = cc
has_image g (c ∷ ds) d h = elim (cases_Bool (same_dart d c)) [
  | inl e ↦ or_left (same_dart (g d) (g c)) (has_dart (map g ds) (g d)) (ap (λ y. same_dart (g d) (g y)) (sym (same_dart_true d c e)) ∙ same_dart_self (g d))
  | inr e ↦ or_right (same_dart (g d) (g c)) (has_dart (map g ds) (g d)) (has_image g ds d (or_second (same_dart d c) (has_dart ds d) e h))
]

-- a dart of the images is the image of a dart
pub image_of_dart : (g : Dart → Dart) (ds : List Dart) (d : Dart) → has_dart (map g ds) d ≡ true → (c : Dart) × (has_dart ds c ≡ true) × (d ≡ g c)
image_of_dart g [] d h = cc
image_of_dart g (c ∷ ds) d h = elim (cases_Bool (same_dart d (g c))) [
  | inl e ↦ (c, or_left (same_dart c c) (has_dart ds c) (same_dart_self c), same_dart_true d (g c) e)
  | inr e ↦
      let rest = image_of_dart g ds d (or_second (same_dart d (g c)) (has_dart (map g ds) d) e h) in
      (rest.0, or_right (same_dart rest.0 c) (has_dart ds rest.0) rest.1, rest.2)
]

-- where no image stands twice, darts with one image are the same
pub images_apart : (g : Dart → Dart) (ds : List Dart) → IsDistinct (map g ds) → (c d : Dart) → has_dart ds c ≡ true → has_dart ds d ≡ true → g c ≡ g d → c ≡ d
images_apart g [] distinct c d c_in d_in e = cc
images_apart g (b ∷ ds) distinct c d c_in d_in e =
    let twice : (y z : Dart) → same_dart y b ≡ true → has_dart ds z ≡ true → g y ≡ g z → ⊥ = λ y z is there same.
    not_in_both (g b ∷ []) (map g ds) (g z) distinct
    (or_left (same_dart (g z) (g b)) false (ap (λ a. same_dart a (g b)) (sym same ∙ ap g (same_dart_true y b is)) ∙ same_dart_self (g b)))
    (has_image g ds z there) in
    elim (cases_Bool (same_dart c b)) [
      | inl c_is ↦ grind (arith, cases_Bool, same_dart_true, or_second)
      | inr c_not ↦ elim (cases_Bool (same_dart d b)) [
        | inl d_is ↦ absurd (twice d c d_is (or_second (same_dart c b) (has_dart ds c) c_not c_in) (sym e))
        | inr d_not ↦ images_apart g ds (distinct_tail (g b) (map g ds) distinct) c d (or_second (same_dart c b) (has_dart ds c) c_not c_in)
            (or_second (same_dart d b) (has_dart ds d) d_not d_in) e
      ]
    ]

-- a map that keeps the test of darts keeps what follows
pub follower_of_image : (g : Dart → Dart) (first d : Dart) (ds : List Dart) → ((c : Dart) → has_dart ds c ≡ true → same_dart (g d) (g c) ≡ same_dart d c)
    → follower (g first) (map g ds) (g d) ≡ g (follower first ds d)
follower_of_image g first d [] same = refl
follower_of_image g first d (c ∷ ds) same =
    let rest = follower_of_image g first d ds (λ b h. same b (or_right (same_dart b c) (has_dart ds b) h)) in
    let here = same c (or_left (same_dart c c) (has_dart ds c) (same_dart_self c)) in
    ap (λ (t : Bool). cond t (slice_index_or (map g ds) 0 (g first)) (follower (g first) (map g ds) (g d))) here
    ∙ ap (λ (y : Dart). cond (same_dart d c) y (follower (g first) (map g ds) (g d))) (get_or-map g ds 0 first)
    ∙ ap (λ (y : Dart). cond (same_dart d c) (g (slice_index_or ds 0 first)) y) rest
    ∙ by_test (same_dart d c) where
      by_test : (t : Bool) → cond t (g (slice_index_or ds 0 first)) (g (follower first ds d)) ≡ g (cond t (slice_index_or ds 0 first) (follower first ds d))
      by_test true = refl
      by_test false = refl

-- and what comes next round a point
pub next_of_image : (g : Dart → Dart) (d : Dart) (ds : List Dart) → ((c : Dart) → has_dart ds c ≡ true → same_dart (g d) (g c) ≡ same_dart d c)
    → next_around (map g ds) (g d) ≡ g (next_around ds d)
next_of_image g d ds same = ap (λ first. follower first (map g ds) (g d)) (get_or-map g ds 0 d) ∙ follower_of_image g (slice_index_or ds 0 d) d ds same

-- ---- Darts that pass a test

-- the darts of the list that pass
pub has_passing : (keep : Dart → Bool) (ds : List Dart) (d : Dart) → has_dart (filter keep ds) d ≡ true → has_dart ds d ≡ true
has_passing keep [] d h = cc
has_passing keep (c ∷ ds) d h = by_test (has_passing keep ds d) (keep c) h where
  by_test : (has_dart (filter keep ds) d ≡ true → has_dart ds d ≡ true) → (t : Bool) → has_dart (cond t (c ∷ filter keep ds) (filter keep ds)) d ≡ true
      → (same_dart d c || has_dart ds d) ≡ true
  by_test rest true k = grind (arith, or_cases, or_left, or_right)
  by_test rest false k = or_right (same_dart d c) (has_dart ds d) (rest k)

-- and each that passes is one of them
pub passing_has : (keep : Dart → Bool) (ds : List Dart) (d : Dart) → keep d ≡ true → has_dart ds d ≡ true → has_dart (filter keep ds) d ≡ true
passing_has keep [] d passes h = cc
passing_has keep (c ∷ ds) d passes h = elim (cases_Bool (same_dart d c)) [
  | inl e ↦ grind (arith, same_dart_true, or_left)
  | inr e ↦ by_test (keep c) (passing_has keep ds d passes (or_second (same_dart d c) (has_dart ds d) e h))
] where
  by_test : (t : Bool) → has_dart (filter keep ds) d ≡ true → has_dart (cond t (c ∷ filter keep ds) (filter keep ds)) d ≡ true
  by_test true k = or_right (same_dart d c) (has_dart (filter keep ds) d) k
  by_test false k = k

fewer_pass : (keep : Dart → Bool) (ds : List Dart) (d : Dart) → count_by (same_dart d) (filter keep ds) ≤ count_by (same_dart d) ds
fewer_pass keep [] d = omega arith
fewer_pass keep (c ∷ ds) d =
    let rest = fewer_pass keep ds d in
    let all = sum_by-cons (λ y. one (same_dart d y)) c ds in
    let kept = sum_by-cons (λ y. one (same_dart d y)) c (filter keep ds) in
    grind (arith, cases_Bool)

-- no dart stands twice among those that pass
pub distinct_passing : (keep : Dart → Bool) (ds : List Dart) → IsDistinct ds → IsDistinct (filter keep ds)
distinct_passing keep ds distinct = record { once = λ d. let most = distinct.once d in let fewer = fewer_pass keep ds d in omega arith }

-- the darts of the points that pass are the passing darts of all points
pub passing_points : (keep : Dart → Bool) (s : System) → darts_in (map (filter keep) s) ≡ filter keep (darts_in s)
passing_points keep [] = refl
passing_points keep (around ∷ s) = ap (λ ds. filter keep around ++ ds) (passing_points keep s) ∙ sym (filter-append keep around (darts_in s))

-- the images of the points are the images of their darts
pub image_points : (g : Dart → Dart) (s : System) → darts_in (map (map g) s) ≡ map g (darts_in s)
image_points g [] = refl
image_points g (around ∷ s) = ap (λ ds. map g around ++ ds) (image_points g s) ∙ sym (map-append g around (darts_in s))

-- ---- Points of a system of their own

-- where no dart stands twice, two items whose points have one dart are the same
pub points_apart : {X : Type 0} (h : X → List Dart) (xs : List X) → IsDistinct (darts_in (map h xs)) → (a b : X) (d : Dart) → IsIn a xs → IsIn b xs
    → has_dart (h a) d ≡ true → has_dart (h b) d ≡ true → a ≡ b
points_apart h [] distinct a b d a_in b_in p q = absurd a_in
points_apart h (x ∷ xs) distinct a b d (inl e) (inl k) p q = e ∙ sym k
points_apart h (x ∷ xs) distinct a b d (inl e) (inr k) p q = grind (arith, not_in_both, at_point_in, in_map)
points_apart h (x ∷ xs) distinct a b d (inr e) (inl k) p q = grind (arith, not_in_both, at_point_in, in_map)
points_apart h (x ∷ xs) distinct a b d (inr e) (inr k) p q = points_apart h xs (distinct_right (h x) (darts_in (map h xs)) distinct) a b d e k p q
