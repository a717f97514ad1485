-- The turn of a system in which no dart stands twice leads its darts to its darts, no two to the same.
use Rattle.std.proofs.Common.{◌≡◌, ◌≤◌, ◌||◌, ap, arith, Bool, cond, false, inl, inr, List, refl, subst, sym, true, [], ◌++◌, ◌∙◌, ◌∷◌}
use Rattle.std.specs.Prelude.{count_by, slice_index_or}
use Rattle.std.proofs.lemmas.List.Sums.{sum_by-append, sum_by-cons}
use Rattle.std.proofs.lemmas.Bool.{cases_Bool, false≢true, or_cases, or_left, or_right}
use Rattle.topo_core.specs.declared.darts.Dart.{Dart}
use Rattle.topo_core.specs.Darts.{same_dart}
use Rattle.topo_core.specs.Systems.{darts_in, follower, has_dart, System, turn}
use Rattle.topo_core.proofs.numbering.Counting.{any_counted, one}
use Rattle.topo_core.proofs.numbering.DartLaws.{same_dart_self, same_dart_true}
use Rattle.topo_core.proofs.numbering.Members.{or_second}
use Rattle.topo_core.proofs.systems.NewDarts.{has_dart-append, or_right_false, stands_in, turn_at, turn_past}

-- no dart stands twice in the list
pub record IsDistinct (ds : List Dart) : Type 0 where
  pub once : (d : Dart) → count_by (same_dart d) ds ≤ 1

-- the parts of a list in which no dart stands twice
pub distinct_right : (xs ys : List Dart) → IsDistinct (xs ++ ys) → IsDistinct ys
distinct_right xs ys distinct = record { once = λ d. let sum = sum_by-append (λ c. one (same_dart d c)) xs ys in let most = distinct.once d in omega arith }

pub distinct_left : (xs ys : List Dart) → IsDistinct (xs ++ ys) → IsDistinct xs
distinct_left xs ys distinct = record { once = λ d. let sum = sum_by-append (λ c. one (same_dart d c)) xs ys in let most = distinct.once d in omega arith }

pub distinct_tail : (c : Dart) (cs : List Dart) → IsDistinct (c ∷ cs) → IsDistinct cs
distinct_tail c cs distinct = record { once = λ d. let sum = sum_by-cons (λ e. one (same_dart d e)) c cs in let most = distinct.once d in omega arith }

-- a dart of both parts would stand twice
pub not_in_both : (xs ys : List Dart) (d : Dart) → IsDistinct (xs ++ ys) → has_dart xs d ≡ true → has_dart ys d ≡ true → ⊥
not_in_both xs ys d distinct here there =
    let sum = sum_by-append (λ c. one (same_dart d c)) xs ys in
    let most = distinct.once d in
    let left = any_counted (same_dart d) xs here in
    let right = any_counted (same_dart d) ys there in omega arith

pub head_not_later : (c : Dart) (cs : List Dart) → IsDistinct (c ∷ cs) → has_dart cs c ≡ false
head_not_later c cs distinct = elim (cases_Bool (has_dart cs c)) [
  | inl e ↦ absurd (not_in_both (c ∷ []) cs c distinct (or_left (same_dart c c) false (same_dart_self c)) e)
  | inr e ↦ e
]

-- ---- Round one point

-- the first of a list, or else `first`, is one of both
first_in : (first : Dart) (cs : List Dart) → has_dart (first ∷ cs) (slice_index_or cs 0 first) ≡ true
first_in first [] = or_left (same_dart first first) false (same_dart_self first)
first_in first (c ∷ cs) = or_right (same_dart c first) (has_dart (c ∷ cs) c) (or_left (same_dart c c) (has_dart cs c) (same_dart_self c))

or_mid : (a b c : Bool) → (a || c) ≡ true → (a || (b || c)) ≡ true
or_mid true b c h = refl
or_mid false true c h = refl
or_mid false false c h = h

-- what follows a dart of a list stands behind the head, or is the first
follower_behind : (first c d : Dart) (cs : List Dart) → has_dart (c ∷ cs) d ≡ true → has_dart (first ∷ cs) (follower first (c ∷ cs) d) ≡ true
follower_behind first c d [] h = grind (arith, cases_Bool, first_in)
follower_behind first c d (b ∷ cs) h = elim (cases_Bool (same_dart d c)) [
  | inl e ↦ subst (λ y. has_dart (first ∷ b ∷ cs) y ≡ true) (sym (ap (λ (t : Bool). cond t b (follower first (b ∷ cs) d)) e)) (first_in first (b ∷ cs))
  | inr e ↦
      subst (λ y. has_dart (first ∷ b ∷ cs) y ≡ true) (sym (ap (λ (t : Bool). cond t b (follower first (b ∷ cs) d)) e))
      (or_mid (same_dart (follower first (b ∷ cs) d) first) (same_dart (follower first (b ∷ cs) d) b) (has_dart cs (follower first (b ∷ cs) d))
      (follower_behind first b d cs (or_second (same_dart d c) (has_dart (b ∷ cs) d) e h)))
]

-- the head follows no dart behind it
head_follows_none : (first b d : Dart) (cs : List Dart) → IsDistinct (b ∷ cs) → has_dart (b ∷ cs) first ≡ false → has_dart (b ∷ cs) d ≡ true
    → b ≡ follower first (b ∷ cs) d → ⊥
head_follows_none first b d cs distinct outside there e =
    let behind = subst (λ y. has_dart (first ∷ cs) y ≡ true) (sym e) (follower_behind first b d cs there) in
    elim (or_cases (same_dart b first) (has_dart cs b) behind) [
      | inl same ↦ false≢true
          (sym outside ∙ or_left (same_dart first b) (has_dart cs first) (ap (same_dart first) (same_dart_true b first same) ∙ same_dart_self first))
      | inr again ↦ false≢true (sym (head_not_later b cs distinct) ∙ again)
    ]

-- no two darts of a list are followed by the same
follower_apart : (first z : Dart) (cs : List Dart) → IsDistinct (z ∷ cs) → has_dart cs first ≡ false → (c d : Dart) → has_dart (z ∷ cs) c ≡ true
    → has_dart (z ∷ cs) d ≡ true
    → follower first (z ∷ cs) c ≡ follower first (z ∷ cs) d → c ≡ d
follower_apart first z [] distinct outside c d c_in d_in e = grind (arith, or_cases, same_dart_true, false≢true)
follower_apart first z (b ∷ cs) distinct outside c d c_in d_in e =
    let rest = distinct_tail z (b ∷ cs) distinct in
    elim (cases_Bool (same_dart c z)) [
      | inl c_is ↦ elim (cases_Bool (same_dart d z)) [
        | inl d_is ↦ same_dart_true c z c_is ∙ sym (same_dart_true d z d_is)
        | inr d_not ↦ absurd (head_follows_none first b d cs rest outside (or_second (same_dart d z) (has_dart (b ∷ cs) d) d_not d_in)
            (sym (ap (λ (t : Bool). cond t b (follower first (b ∷ cs) c)) c_is) ∙ e ∙ ap (λ (t : Bool). cond t b (follower first (b ∷ cs) d)) d_not))
      ]
      | inr c_not ↦ elim (cases_Bool (same_dart d z)) [
        | inl d_is ↦ absurd (head_follows_none first b c cs rest outside (or_second (same_dart c z) (has_dart (b ∷ cs) c) c_not c_in)
            (sym (ap (λ (t : Bool). cond t b (follower first (b ∷ cs) d)) d_is) ∙ sym e ∙ ap (λ (t : Bool). cond t b (follower first (b ∷ cs) c)) c_not))
        | inr d_not ↦ follower_apart first b cs rest (or_right_false (same_dart first b) (has_dart cs first) outside) c d
            (or_second (same_dart c z) (has_dart (b ∷ cs) c) c_not c_in) (or_second (same_dart d z) (has_dart (b ∷ cs) d) d_not d_in)
            (sym (ap (λ (t : Bool). cond t b (follower first (b ∷ cs) c)) c_not) ∙ e ∙ ap (λ (t : Bool). cond t b (follower first (b ∷ cs) d)) d_not)
      ]
    ]

-- what follows d round its point
abbrev pub next_around : List Dart → Dart → Dart
next_around around d = follower (slice_index_or around 0 d) around d

next_around_in : (around : List Dart) (d : Dart) → has_dart around d ≡ true → has_dart around (next_around around d) ≡ true
next_around_in [] d h = cc
next_around_in (c ∷ cs) d h = follower_behind c c d cs h

next_around_apart : (around : List Dart) → IsDistinct around → (c d : Dart) → has_dart around c ≡ true → has_dart around d ≡ true
    → next_around around c ≡ next_around around d → c ≡ d
next_around_apart [] distinct c d c_in d_in e = cc
next_around_apart (z ∷ cs) distinct c d c_in d_in e = follower_apart z z cs distinct (head_not_later z cs distinct) c d c_in d_in e

-- ---- In a system

-- a turn leads from a dart of the system to a dart of the system
pub turn_in : (s : System) (d : Dart) → stands_in s d ≡ true → stands_in s (turn s d) ≡ true
turn_in [] d h = cc
turn_in (around ∷ s) d h = elim (cases_Bool (has_dart around d)) [
  | inl e ↦ subst (λ y. stands_in (around ∷ s) y ≡ true) (sym (turn_at around s d e))
      (has_dart-append around (darts_in s) (next_around around d)
      ∙ or_left (has_dart around (next_around around d)) (stands_in s (next_around around d)) (next_around_in around d e))
  | inr e ↦ subst (λ y. stands_in (around ∷ s) y ≡ true) (sym (turn_past around s d e))
      (has_dart-append around (darts_in s) (turn s d) ∙ or_right (has_dart around (turn s d)) (stands_in s (turn s d))
      (turn_in s d (or_second (has_dart around d) (stands_in s d) e (sym (has_dart-append around (darts_in s) d) ∙ h))))
]

-- where no dart stands twice, no two darts turn to the same
pub turn_apart : (s : System) → IsDistinct (darts_in s) → (c d : Dart) → stands_in s c ≡ true → stands_in s d ≡ true → turn s c ≡ turn s d → c ≡ d
turn_apart [] distinct c d c_in d_in e = cc
turn_apart (around ∷ s) distinct c d c_in d_in e =
    let inside : (y : Dart) → has_dart around y ≡ false → stands_in (around ∷ s) y ≡ true → stands_in s y ≡ true =
    λ y no h. or_second (has_dart around y) (stands_in s y) no (sym (has_dart-append around (darts_in s) y) ∙ h) in
    elim (cases_Bool (has_dart around c)) [
      | inl c_here ↦ elim (cases_Bool (has_dart around d)) [
        | inl d_here ↦ next_around_apart around (distinct_left around (darts_in s) distinct) c d c_here d_here
            (sym (turn_at around s c c_here) ∙ e ∙ turn_at around s d d_here)
        | inr d_not ↦ absurd (not_in_both around (darts_in s) (next_around around c) distinct (next_around_in around c c_here)
            (subst (λ y. stands_in s y ≡ true) (sym (sym (turn_at around s c c_here) ∙ e ∙ turn_past around s d d_not)) (turn_in s d (inside d d_not d_in))))
      ]
      | inr c_not ↦ elim (cases_Bool (has_dart around d)) [
        | inl d_here ↦ absurd (not_in_both around (darts_in s) (next_around around d) distinct (next_around_in around d d_here)
            (subst (λ y. stands_in s y ≡ true) (sym (turn_past around s c c_not) ∙ e ∙ turn_at around s d d_here) (turn_in s c (inside c c_not c_in))))
        | inr d_not ↦ turn_apart s (distinct_right around (darts_in s) distinct) c d (inside c c_not c_in) (inside d d_not d_in)
            (sym (turn_past around s c c_not) ∙ e ∙ turn_past around s d d_not)
      ]
    ]
