-- Taking one dart out of a system: what led to it leads on to what followed it, and all else turns as before.
use Rattle.std.proofs.Common.{arith, ◌≡◌, ◌||◌, ap, ap₂, Bool, cond, false, inl, inr, List, not, refl, subst, sym, true, [], ◌++◌, ◌∙◌, ◌∷◌}
use Rattle.std.specs.Prelude.{filter, ◌⊎◌}
use Rattle.std.proofs.lemmas.Bool.{cases_Bool, false≢true, or_cases}
use Rattle.topo_core.specs.declared.darts.Dart.{Dart}
use Rattle.topo_core.specs.Darts.{same_dart}
use Rattle.topo_core.specs.Items.{IsIn}
use Rattle.topo_core.specs.Systems.{bypassed, darts_in, follower, has_dart, System, turn}
use Rattle.topo_core.proofs.numbering.DartLaws.{same_dart_self, same_dart_true}
use Rattle.topo_core.proofs.numbering.Members.{in_map, or_second}
use Rattle.topo_core.proofs.systems.NewDarts.{follower_new, follower_old, or_left_false, or_right_false, stands_in}
use Rattle.topo_core.proofs.numbering.Numbering.{not_same}
use Rattle.topo_core.proofs.systems.Points.{distinct_passing, has_passing, passing_has, passing_points, point_of, turn_at_point}
use Rattle.topo_core.proofs.systems.Turning.{distinct_left, distinct_right, distinct_tail, head_not_later, IsDistinct, next_around}

-- ---- Lists without one dart

abbrev kept_by : Dart → Dart → Bool
kept_by y d = not (same_dart y d)

filter_in : (keep : Dart → Bool) (c : Dart) (ds : List Dart) → keep c ≡ true → filter keep (c ∷ ds) ≡ c ∷ filter keep ds
filter_in keep c ds e = ap (λ (t : Bool). cond t (c ∷ filter keep ds) (filter keep ds)) e

filter_out : (keep : Dart → Bool) (c : Dart) (ds : List Dart) → keep c ≡ false → filter keep (c ∷ ds) ≡ filter keep ds
filter_out keep c ds e = ap (λ (t : Bool). cond t (c ∷ filter keep ds) (filter keep ds)) e

same_symm : (c d : Dart) → same_dart c d ≡ false → same_dart d c ≡ false
same_symm c d e = not_same d c (λ k. false≢true (sym e ∙ ap (λ y. same_dart c y) k ∙ same_dart_self c))

-- a list without y stays
pub filter_absent : (y : Dart) (ds : List Dart) → has_dart ds y ≡ false → filter (kept_by y) ds ≡ ds
filter_absent y [] h = refl
filter_absent y (c ∷ ds) h = filter_in (kept_by y) c ds (ap not (or_left_false (same_dart y c) (has_dart ds y) h))
    ∙ ap (λ cs. c ∷ cs) (filter_absent y ds (or_right_false (same_dart y c) (has_dart ds y) h))

-- a list with y once, before and behind it
pub record Parted (y : Dart) (ds : List Dart) : Type 0 where
  pub front : List Dart
  pub back : List Dart
  pub whole : ds ≡ front ++ y ∷ back
  pub not_in_front : has_dart front y ≡ false
  pub without : filter (kept_by y) ds ≡ front ++ back

pub parted : (y : Dart) (ds : List Dart) → IsDistinct ds → has_dart ds y ≡ true → Parted y ds
parted y [] distinct h = cc
parted y (c ∷ ds) distinct h = elim (cases_Bool (same_dart y c)) [
  | inl e ↦ grind (arith, same_dart_true, filter_out, kept_by, filter_absent, head_not_later)
  | inr e ↦
      let rest = parted y ds (distinct_tail c ds distinct) (or_second (same_dart y c) (has_dart ds y) e h) in
      record {
        front = c ∷ rest.front;
        back = rest.back;
        whole = ap (λ b. c ∷ b) rest.whole;
        not_in_front = ap (λ b. b || has_dart rest.front y) e ∙ rest.not_in_front;
        without = filter_in (kept_by y) c ds (ap not e) ∙ ap (λ b. c ∷ b) rest.without;
      }
]

-- ---- Round one point

-- after of d is before, or before of d is y and after of d is before of y
abbrev pub LeadsOn : (Dart → Dart) → (Dart → Dart) → Dart → Dart → Type 0
LeadsOn before after y d = (after d ≡ before d) ⊎ ((before d ≡ y) × (after d ≡ before y))

-- where the last dart of a list is d, it is followed by the first; all others are followed alike whatever the first is
follower_first : (first other d : Dart) (ds : List Dart) → has_dart ds d ≡ true
    → (follower first ds d ≡ follower other ds d) ⊎ ((follower first ds d ≡ first) × (follower other ds d ≡ other))
follower_first first other d [] h = cc
follower_first first other d (c ∷ []) h = grind (arith, cases_Bool, false≢true, or_second)
follower_first first other d (c ∷ b ∷ ds) h = elim (cases_Bool (same_dart d c)) [
  | inl e ↦ inl (ap (λ (t : Bool). cond t b (follower first (b ∷ ds) d)) e ∙ sym (ap (λ (t : Bool). cond t b (follower other (b ∷ ds) d)) e))
  | inr e ↦
      let now = ap (λ (t : Bool). cond t b (follower first (b ∷ ds) d)) e in
      let then = ap (λ (t : Bool). cond t b (follower other (b ∷ ds) d)) e in
      elim (follower_first first other d (b ∷ ds) (or_second (same_dart d c) (has_dart (b ∷ ds) d) e h)) [
        | inl same ↦ inl (now ∙ same ∙ sym then)
        | inr both ↦ inr (now ∙ both.0, then ∙ both.1)
      ]
]

-- y taken out of a list
leads_on_parts : (y d : Dart) (front back : List Dart) → has_dart front y ≡ false → same_dart d y ≡ false → has_dart (front ++ back) d ≡ true
    → LeadsOn (next_around (front ++ y ∷ back)) (next_around (front ++ back)) y d
leads_on_parts y d [] [] new other h = cc
leads_on_parts y d [] (z ∷ zs) new other h =
    let skip : follower y (y ∷ z ∷ zs) d ≡ follower y (z ∷ zs) d = ap (λ (t : Bool). cond t z (follower y (z ∷ zs) d)) other in
    let next : follower y (y ∷ z ∷ zs) y ≡ z = ap (λ (t : Bool). cond t z (follower y (z ∷ zs) y)) (same_dart_self y) in
    elim (follower_first y z d (z ∷ zs) h) [
      | inl same ↦ inl (sym same ∙ sym skip)
      | inr both ↦ inr (skip ∙ both.0, both.1 ∙ sym next)
    ]
leads_on_parts y d (x ∷ xs) back new other h = elim (follower_old x y d (x ∷ xs) back other new) [
  | inl same ↦ inl (sym same)
  | inr between ↦ inr (between.0, sym between.1 ∙ sym (follower_new x y (x ∷ xs) back new))
]

-- y taken out round a point
leads_on_around : (y d : Dart) (around : List Dart) → IsDistinct around → same_dart d y ≡ false → has_dart around y ≡ true → has_dart around d ≡ true
    → LeadsOn (next_around around) (next_around (filter (kept_by y) around)) y d
leads_on_around y d around distinct other y_in d_in =
    let p = parted y around distinct y_in in
    grind (arith, passing_has, same_symm, leads_on_parts, next_around)

-- ---- In a system

-- no dart stands twice round a point where none stands twice in the system
pub point_distinct : (s : System) (around : List Dart) → IsDistinct (darts_in s) → IsIn around s → IsDistinct around
point_distinct [] around distinct h = absurd h
point_distinct (first ∷ s) around distinct (inl e) = subst IsDistinct (sym e) (distinct_left first (darts_in s) distinct)
point_distinct (first ∷ s) around distinct (inr h) = point_distinct s around (distinct_right first (darts_in s) distinct) h

module _ (s : System) (distinct : IsDistinct (darts_in s)) (gone : Dart → Bool) where
  abbrev keep : Dart → Bool
  keep d = not (gone d)

  pub bypassed_distinct : IsDistinct (darts_in (bypassed gone s))
  bypassed_distinct = subst IsDistinct (sym (passing_points keep s)) (distinct_passing keep (darts_in s) distinct)

  -- what is left passes and was there
  pub left_passes : (d : Dart) → stands_in (bypassed gone s) d ≡ true → gone d ≡ false
  left_passes d h = by_list (darts_in s) (ap (λ ds. has_dart ds d) (sym (passing_points keep s)) ∙ h) where
    by_list : (ds : List Dart) → has_dart (filter keep ds) d ≡ true → gone d ≡ false
    by_list [] k = cc
    by_list (c ∷ ds) k = elim (cases_Bool (gone c)) [
      | inl e ↦ by_list ds (ap (λ cs. has_dart cs d) (sym (filter_out keep c ds (ap not e))) ∙ k)
      | inr e ↦ elim (or_cases (same_dart d c) (has_dart (filter keep ds) d) (ap (λ cs. has_dart cs d) (sym (filter_in keep c ds (ap not e))) ∙ k)) [
        | inl is ↦ ap gone (same_dart_true d c is) ∙ e
        | inr later ↦ by_list ds later
      ]
    ]

  pub left_stood : (d : Dart) → stands_in (bypassed gone s) d ≡ true → stands_in s d ≡ true
  left_stood d h = has_passing keep (darts_in s) d (ap (λ ds. has_dart ds d) (sym (passing_points keep s)) ∙ h)

  -- and each dart that passes is left
  pub passing_left : (d : Dart) → gone d ≡ false → stands_in s d ≡ true → stands_in (bypassed gone s) d ≡ true
  passing_left d passes h = ap (λ ds. has_dart ds d) (passing_points keep s) ∙ passing_has keep (darts_in s) d (ap not passes) h

-- y taken out of a system
pub leads_on : (s : System) → IsDistinct (darts_in s) → (y d : Dart) → same_dart d y ≡ false → stands_in s d ≡ true
    → LeadsOn (turn s) (turn (bypassed (same_dart y) s)) y d
leads_on s distinct y d other h =
    let point = point_of s d h in
    let around = point.0 in
    let was : turn s d ≡ next_around around d = turn_at_point s distinct around d point.1 point.2 in
    let kept : has_dart (filter (kept_by y) around) d ≡ true = passing_has (kept_by y) around d (ap not (same_symm d y other)) point.2 in
    let now : turn (bypassed (same_dart y) s) d ≡ next_around (filter (kept_by y) around) d =
    turn_at_point (bypassed (same_dart y) s) (bypassed_distinct s distinct (same_dart y))
    (filter (kept_by y) around) d (in_map (filter (kept_by y)) around s point.1) kept in
    grind (arith, cases_Bool, leads_on_around, point_distinct, turn_at_point, next_around, filter_absent)

-- ---- One test after the other

either_gone : (gone : Dart → Bool) (y : Dart) (ds : List Dart)
    → filter (λ d. not (gone d || same_dart y d)) ds ≡ filter (kept_by y) (filter (λ d. not (gone d)) ds)
either_gone gone y [] = refl
either_gone gone y (c ∷ ds) = by_tests (gone c) (same_dart y c) refl refl (either_gone gone y ds) where
  by_tests : (t u : Bool) → gone c ≡ t → same_dart y c ≡ u → filter (λ d. not (gone d || same_dart y d)) ds ≡ filter (kept_by y) (filter (λ d. not (gone d)) ds)
      → filter (λ d. not (gone d || same_dart y d)) (c ∷ ds) ≡ filter (kept_by y) (filter (λ d. not (gone d)) (c ∷ ds))
  by_tests true u e k rest = cc
  by_tests false true e k rest = cc
  by_tests false false e k rest = cc

-- y taken out after others
pub bypassed_one_more : (gone : Dart → Bool) (y : Dart) (s : System) → bypassed (λ d. gone d || same_dart y d) s ≡ bypassed (same_dart y) (bypassed gone s)
bypassed_one_more gone y [] = refl
bypassed_one_more gone y (around ∷ s) = ap₂ (λ ds t. ds ∷ t) (either_gone gone y around) (bypassed_one_more gone y s)

-- none taken out
pub bypassed_none : (gone : Dart → Bool) → ((d : Dart) → gone d ≡ false) → (s : System) → bypassed gone s ≡ s
bypassed_none gone none [] = refl
bypassed_none gone none (around ∷ s) = ap₂ (λ ds t. ds ∷ t) (all_kept around) (bypassed_none gone none s) where
  all_kept : (ds : List Dart) → filter (λ d. not (gone d)) ds ≡ ds
  all_kept [] = refl
  all_kept (c ∷ ds) = filter_in (λ d. not (gone d)) c ds (ap not (none c)) ∙ ap (λ cs. c ∷ cs) (all_kept ds)
