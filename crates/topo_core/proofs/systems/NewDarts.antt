-- A rotation system with one dart more at a point, and its twin at a point of its own: what was connected stays so.
use Rattle.std.proofs.Common.{◌≡◌, ◌+◌, ◌≤◌, ◌||◌, ap, append_assoc, arith, Bool, cond, false}
use Rattle.std.proofs.Common.{inl, inr, length, List, refl, subst, sym, true, [], ◌++◌, ◌∙◌, ◌∷◌}
use Rattle.std.specs.Prelude.{count_by, slice_index_or, ◌==◌, ◌⊎◌}
use Rattle.std.specs.List.{list_any}
use Rattle.std.proofs.lemmas.List.Concat.{flat_map-append}
use Rattle.std.proofs.lemmas.List.Sums.{sum_by-append, sum_by-cons}
use Rattle.std.proofs.Math.Bool.{or_assoc}
use Rattle.std.proofs.lemmas.Bool.{cases_Bool, false≢true, or_left, or_right}
use Rattle.topo_core.specs.declared.darts.Dart.{Dart}
use Rattle.topo_core.specs.Darts.{dart_twin, same_dart}
use Rattle.topo_core.specs.Rotations.{along, Cross, Joined, Move, Turn}
use Rattle.topo_core.specs.Systems.{Connected, darts_in, follower, has_dart, System, turn}
use Rattle.topo_core.proofs.systems.Connection.{joined_move, joined_self, joined_through}
use Rattle.topo_core.proofs.numbering.Counting.{any_counted, eqb_more, one}
use Rattle.topo_core.proofs.numbering.DartLaws.{same_dart_self, same_dart_true, twin-twin, twin_apart}

-- ---- Tests

-- the parts of a test that fails
pub or_left_false : (a b : Bool) → (a || b) ≡ false → a ≡ false
or_left_false true b h = h
or_left_false false b h = refl

pub or_right_false : (a b : Bool) → (a || b) ≡ false → b ≡ false
or_right_false true b h = cc
or_right_false false b h = h

-- ---- Darts of joined lists

-- a dart of one part or of the other
pub has_dart-append : (xs ys : List Dart) (d : Dart) → has_dart (xs ++ ys) d ≡ (has_dart xs d || has_dart ys d)
has_dart-append [] ys d = refl
has_dart-append (x ∷ xs) ys d = ap (λ b. same_dart d x || b) (has_dart-append xs ys d) ∙ sym (or_assoc (same_dart d x) (has_dart xs d) (has_dart ys d))

-- d stands at some point
abbrev pub stands_in : System → Dart → Bool
stands_in s d = has_dart (darts_in s) d

-- a dart that stands in one part or in the other
pub stands_in-append : (s t : System) (d : Dart) → stands_in (s ++ t) d ≡ (stands_in s d || stands_in t d)
stands_in-append s t d = ap (λ ds. has_dart ds d) (flat_map-append (λ around. around) s t) ∙ has_dart-append (darts_in s) (darts_in t) d

-- ---- The turn of joined systems

-- a dart that stands nowhere turns to itself
pub turn_outside : (s : System) (d : Dart) → stands_in s d ≡ false → turn s d ≡ d
turn_outside [] d h = refl
turn_outside (around ∷ s) d h =
    let both = sym (has_dart-append around (darts_in s) d) ∙ h in
    ap (λ (b : Bool). cond b (follower (slice_index_or around 0 d) around d) (turn s d)) (or_left_false (has_dart around d) (stands_in s d) both)
    ∙ turn_outside s d (or_right_false (has_dart around d) (stands_in s d) both)

-- a dart of the first part turns as there
pub turn_first : (s t : System) (d : Dart) → stands_in s d ≡ true → turn (s ++ t) d ≡ turn s d
turn_first [] t d h = cc
turn_first (around ∷ s) t d h = elim (cases_Bool (has_dart around d)) [
  | inl e ↦ cc
  | inr e ↦
      let rest = turn_first s t d (sym (ap (λ b. b || stands_in s d) e) ∙ sym (has_dart-append around (darts_in s) d) ∙ h) in
      ap (λ (y : Dart). cond (has_dart around d) (follower (slice_index_or around 0 d) around d) y) rest
]

-- a dart of no point of the first part turns as in the second
pub turn_second : (s t : System) (d : Dart) → stands_in s d ≡ false → turn (s ++ t) d ≡ turn t d
turn_second [] t d h = refl
turn_second (around ∷ s) t d h =
    let both = sym (has_dart-append around (darts_in s) d) ∙ h in
    ap (λ (b : Bool). cond b (follower (slice_index_or around 0 d) around d) (turn (s ++ t) d)) (or_left_false (has_dart around d) (stands_in s d) both)
    ∙ turn_second s t d (or_right_false (has_dart around d) (stands_in s d) both)

-- the turn at the point where d stands, if it stands at none before
pub turn_at : (around : List Dart) (t : System) (d : Dart) → has_dart around d ≡ true → turn (around ∷ t) d ≡ follower (slice_index_or around 0 d) around d
turn_at around t d h = ap (λ (b : Bool). cond b (follower (slice_index_or around 0 d) around d) (turn t d)) h

-- the turn, where d does not stand at the first point
pub turn_past : (around : List Dart) (t : System) (d : Dart) → has_dart around d ≡ false → turn (around ∷ t) d ≡ turn t d
turn_past around t d h = ap (λ (b : Bool). cond b (follower (slice_index_or around 0 d) around d) (turn t d)) h

-- ---- One dart more in a list

-- what follows the new dart x
pub follower_new : (first x : Dart) (xs ys : List Dart) → has_dart xs x ≡ false → follower first (xs ++ x ∷ ys) x ≡ slice_index_or ys 0 first
follower_new first x [] ys h = ap (λ (b : Bool). cond b (slice_index_or ys 0 first) (follower first ys x)) (same_dart_self x)
follower_new first x (y ∷ xs) ys h =
    ap (λ (b : Bool). cond b (slice_index_or (xs ++ x ∷ ys) 0 first) (follower first (xs ++ x ∷ ys) x)) (or_left_false (same_dart x y) (has_dart xs x) h)
    ∙ follower_new first x xs ys (or_right_false (same_dart x y) (has_dart xs x) h)

-- what follows d is what followed it, or the new dart comes between
pub follower_old : (first x d : Dart) (xs ys : List Dart) → same_dart d x ≡ false → has_dart xs x ≡ false
    → (follower first (xs ++ x ∷ ys) d ≡ follower first (xs ++ ys) d)
    ⊎ ((follower first (xs ++ x ∷ ys) d ≡ x) × (slice_index_or ys 0 first ≡ follower first (xs ++ ys) d))
follower_old first x d [] ys other new = inl (ap (λ (b : Bool). cond b (slice_index_or ys 0 first) (follower first ys d)) other)
follower_old first x d (y ∷ []) ys other new = grind (arith, cases_Bool)
follower_old first x d (y ∷ w ∷ xs) ys other new = elim (cases_Bool (same_dart d y)) [
  | inl e ↦ inl (
      ap (λ (b : Bool). cond b w (follower first (w ∷ xs ++ x ∷ ys) d)) e
      ∙ sym (ap (λ (b : Bool). cond b w (follower first (w ∷ xs ++ ys) d)) e))
  | inr e ↦
      let now = ap (λ (b : Bool). cond b w (follower first (w ∷ xs ++ x ∷ ys) d)) e in
      let before = ap (λ (b : Bool). cond b w (follower first (w ∷ xs ++ ys) d)) e in
      elim (follower_old first x d (w ∷ xs) ys other (or_right_false (same_dart x y) (has_dart (w ∷ xs) x) new)) [
        | inl same ↦ inl (now ∙ same ∙ sym before)
        | inr between ↦ inr (now ∙ between.0, between.1 ∙ sym before)
      ]
]

-- the dart before the new one, in a list that has no dart twice
dart_before : (first x z : Dart) (zs ys : List Dart) → ((d : Dart) → count_by (same_dart d) (z ∷ zs) ≤ 1) → (y : Dart) × (has_dart (z ∷ zs) y ≡ true)
    × (follower first (z ∷ zs ++ x ∷ ys) y ≡ x)
dart_before first x z [] ys once = (z, ap (λ b. b || false) (same_dart_self z), ap (λ (b : Bool). cond b x (follower first (x ∷ ys) z)) (same_dart_self z))
dart_before first x z (w ∷ zs) ys once =
    let fewer : (d : Dart) → count_by (same_dart d) (w ∷ zs) ≤ 1 = λ d. let step = sum_by-cons (λ c. one (same_dart d c)) z (w ∷ zs) in let most =
    once d in omega arith in
    let rest = dart_before first x w zs ys fewer in
    let y = rest.0 in
    let apart : same_dart y z ≡ false = elim (cases_Bool (same_dart y z)) [
      | inl e ↦ absurd (
          let step = sum_by-cons (λ c. one (same_dart y c)) z (w ∷ zs) in
          let here : one (same_dart y z) ≡ 1 = ap one e in
          let more = any_counted (same_dart y) (w ∷ zs) rest.1 in
          let most = once y in omega arith)
      | inr e ↦ e
    ] in (y, or_right (same_dart y z) (has_dart (w ∷ zs) y) rest.1, ap (λ (b : Bool). cond b w (follower first (w ∷ zs ++ x ∷ ys) y)) apart ∙ rest.2)

-- ---- Bare points

-- some point has no dart
abbrev any_bare : System → Bool
any_bare s = list_any (λ around. length around == 0) s

any_bare-append : (s t : System) → any_bare (s ++ t) ≡ (any_bare s || any_bare t)
any_bare-append [] t = refl
any_bare-append (around ∷ s) t = ap (λ b. length around == 0 || b) (any_bare-append s t) ∙ sym (or_assoc (length around == 0) (any_bare s) (any_bare t))

-- no point is bare after one of them has another list that is not empty, and one dart has a point of its own
no_bare : (before after crossings : System) (around changed : List Dart) (y : Dart) → (length changed == 0) ≡ false
    → any_bare ((before ++ around ∷ after) ++ crossings) ≡ false → any_bare ((before ++ changed ∷ after) ++ (y ∷ []) ∷ crossings) ≡ false
no_bare before after crossings around changed y full none = grind (arith, any_bare-append, or_left_false, or_right_false)

-- ---- One dart more in a system

module _ (before after crossings : System) (z : Dart) (zs ys : List Dart) (x y : Dart) where
  abbrev pub old_system : System
  old_system = (before ++ (z ∷ zs ++ ys) ∷ after) ++ crossings

  -- x is put in behind z and zs, and y is at a point of its own
  abbrev pub new_system : System
  new_system = (before ++ (z ∷ zs ++ x ∷ ys) ∷ after) ++ (y ∷ []) ∷ crossings

  stands_old : (d : Dart) → stands_in old_system d ≡ ((stands_in before d || (has_dart (z ∷ zs ++ ys) d || stands_in after d)) || stands_in crossings d)
  stands_old d = grind (arith, stands_in-append, has_dart-append)

  stands_new : (d : Dart)
      → stands_in new_system d
      ≡ ((stands_in before d || (has_dart (z ∷ zs ++ x ∷ ys) d || stands_in after d)) || (has_dart (y ∷ []) d || stands_in crossings d))
  stands_new d = grind (arith, stands_in-append, has_dart-append)

  same_list : (d : Dart) → same_dart d x ≡ false → has_dart (z ∷ zs ++ x ∷ ys) d ≡ has_dart (z ∷ zs ++ ys) d
  same_list d other = has_dart-append (z ∷ zs) (x ∷ ys) d ∙ ap (λ b. has_dart (z ∷ zs) d || (b || has_dart ys d)) other ∙ sym (has_dart-append (z ∷ zs) ys d)

  -- the darts of the new system are those of the old one, x and y
  new_or_old : (d : Dart) → stands_in new_system d ≡ true → (stands_in old_system d ≡ true) ⊎ ((d ≡ x) ⊎ (d ≡ y))
  new_or_old d h = elim (cases_Bool (same_dart d x)) [
    | inl e ↦ inr (inl (same_dart_true d x e))
    | inr not_x ↦ elim (cases_Bool (same_dart d y)) [
      | inl e ↦ inr (inr (same_dart_true d y e))
      | inr not_y ↦ inl (
          stands_old d
          ∙ sym (ap (λ b. (stands_in before d || (b || stands_in after d)) || stands_in crossings d) (same_list d not_x))
          ∙ sym (ap (λ b. (stands_in before d || (has_dart (z ∷ zs ++ x ∷ ys) d || stands_in after d)) || (b || stands_in crossings d))
          (ap (λ b. b || false) not_y))
          ∙ sym (stands_new d) ∙ h)
    ]
  ]

  in_old : (d : Dart) → has_dart (z ∷ zs ++ ys) d ≡ true → stands_in old_system d ≡ true
  in_old d h = stands_old d ∙ or_left (stands_in before d || (has_dart (z ∷ zs ++ ys) d || stands_in after d)) (stands_in crossings d)
      (or_right (stands_in before d) (has_dart (z ∷ zs ++ ys) d || stands_in after d) (or_left (has_dart (z ∷ zs ++ ys) d) (stands_in after d) h))

  abbrev P : System
  P = before ++ (z ∷ zs ++ ys) ∷ after

  abbrev Q : System
  Q = before ++ (z ∷ zs ++ x ∷ ys) ∷ after

  -- the point of y changes the turn of no other dart
  turn_beside : (s : System) (d : Dart) → same_dart d y ≡ false → turn (s ++ (y ∷ []) ∷ crossings) d ≡ turn (s ++ crossings) d
  turn_beside s d other = grind (arith, cases_Bool, turn_first, turn_second, turn_past)

  -- at the darts before the point of x, that point and those behind it
  old_in_parts : (d : Dart) → turn old_system d ≡ turn (before ++ (z ∷ zs ++ ys) ∷ (after ++ crossings)) d
  old_in_parts d = ap (λ s. turn s d) (append_assoc before ((z ∷ zs ++ ys) ∷ after) crossings)

  new_in_parts : (d : Dart) → same_dart d y ≡ false → turn new_system d ≡ turn (before ++ (z ∷ zs ++ x ∷ ys) ∷ (after ++ crossings)) d
  new_in_parts d other = turn_beside Q d other ∙ ap (λ s. turn s d) (append_assoc before ((z ∷ zs ++ x ∷ ys) ∷ after) crossings)

  count_old : (d : Dart) → count_by (same_dart d) (darts_in old_system)
      ≡ count_by (same_dart d) (darts_in before) + (count_by (same_dart d) (z ∷ zs) + count_by (same_dart d) ys + count_by (same_dart d) (darts_in after))
      + count_by (same_dart d) (darts_in crossings)
  count_old d =
      let whole = ap (count_by (same_dart d)) (flat_map-append (λ around. around) P crossings)
      ∙ sum_by-append (λ c. one (same_dart d c)) (darts_in P) (darts_in crossings) in
      let first = ap (count_by (same_dart d)) (flat_map-append (λ around. around) before ((z ∷ zs ++ ys) ∷ after))
      ∙ sum_by-append (λ c. one (same_dart d c)) (darts_in before) ((z ∷ zs ++ ys) ++ darts_in after) in
      let second = sum_by-append (λ c. one (same_dart d c)) (z ∷ zs ++ ys) (darts_in after) in
      let third = sum_by-append (λ c. one (same_dart d c)) (z ∷ zs) ys in omega arith

  module _ (new_x : stands_in old_system x ≡ false) (new_y : stands_in old_system y ≡ false) (twins : dart_twin x ≡ y) where
    twins_apart : same_dart x y ≡ false
    twins_apart = elim (cases_Bool (same_dart x y)) [ inl e ↦ absurd (twin_apart x (twins ∙ sym (same_dart_true x y e))) | inr e ↦ e ]

    x_in_parts : ((stands_in before x || (has_dart (z ∷ zs ++ ys) x || stands_in after x)) || stands_in crossings x) ≡ false
    x_in_parts = sym (stands_old x) ∙ new_x

    x_not_before : stands_in before x ≡ false
    x_not_before = or_left_false (stands_in before x) _ (or_left_false _ (stands_in crossings x) x_in_parts)

    x_not_around : has_dart (z ∷ zs) x ≡ false
    x_not_around = or_left_false (has_dart (z ∷ zs) x) (has_dart ys x) (sym (has_dart-append (z ∷ zs) ys x)
        ∙ or_left_false (has_dart (z ∷ zs ++ ys) x) (stands_in after x)
        (or_right_false (stands_in before x) _ (or_left_false _ (stands_in crossings x) x_in_parts)))

    in_new_list : has_dart (z ∷ zs ++ x ∷ ys) x ≡ true
    in_new_list = has_dart-append (z ∷ zs) (x ∷ ys) x ∙ or_right (has_dart (z ∷ zs) x) (has_dart (x ∷ ys) x) (ap (λ b. b || has_dart ys x) (same_dart_self x))

    -- the new dart turns to what stands behind it
    turn_of_new : turn new_system x ≡ slice_index_or ys 0 z
    turn_of_new = grind (arith, new_in_parts, twins_apart, turn_second, x_not_before, turn_at, in_new_list, follower_new, x_not_around)

    -- an old turn is a new turn, or two of them by way of x
    pub turn_of_old : (d : Dart) → same_dart d x ≡ false → same_dart d y ≡ false
        → (turn new_system d ≡ turn old_system d) ⊎ ((turn new_system d ≡ x) × (turn new_system x ≡ turn old_system d))
    turn_of_old d not_x not_y = elim (cases_Bool (stands_in before d)) [
      | inl e ↦ inl (new_in_parts d not_y ∙ turn_first before ((z ∷ zs ++ x ∷ ys) ∷ (after ++ crossings)) d e
          ∙ sym (turn_first before ((z ∷ zs ++ ys) ∷ (after ++ crossings)) d e) ∙ sym (old_in_parts d))
      | inr e ↦
          let now = new_in_parts d not_y ∙ turn_second before ((z ∷ zs ++ x ∷ ys) ∷ (after ++ crossings)) d e in
          let was = old_in_parts d ∙ turn_second before ((z ∷ zs ++ ys) ∷ (after ++ crossings)) d e in
          elim (cases_Bool (has_dart (z ∷ zs ++ ys) d)) [
            | inl here ↦
                let now_here = now ∙ turn_at (z ∷ zs ++ x ∷ ys) (after ++ crossings) d (same_list d not_x ∙ here) in
                let was_here = was ∙ turn_at (z ∷ zs ++ ys) (after ++ crossings) d here in
                elim (follower_old z x d (z ∷ zs) ys not_x x_not_around) [
                  | inl same ↦ inl (now_here ∙ same ∙ sym was_here)
                  | inr between ↦ inr (now_here ∙ between.0, turn_of_new ∙ between.1 ∙ sym was_here)
                ]
            | inr elsewhere ↦ inl (
                now ∙ turn_past (z ∷ zs ++ x ∷ ys) (after ++ crossings) d (same_list d not_x ∙ elsewhere)
                ∙ sym (turn_past (z ∷ zs ++ ys) (after ++ crossings) d elsewhere) ∙ sym was)
          ]
    ]

    -- y turns to itself
    pub turn_of_twin : turn new_system y ≡ y
    turn_of_twin = grind (
      arith,
      stands_old,
      or_left_false,
      twin_apart,
      same_dart_true,
      stands_in-append,
      has_dart-append,
      same_list,
      turn_second,
      turn_at,
      or_left,
      same_dart_self,
    )

    -- so what an old turn leads to is joined by new turns
    old_turn_joined : (d : Dart) → Joined (turn new_system) dart_twin d (turn old_system d)
    old_turn_joined d = elim (cases_Bool (same_dart d x)) [
      | inl e ↦ subst (Joined (turn new_system) dart_twin d) (sym (turn_outside old_system d (ap (stands_in old_system) (same_dart_true d x e) ∙ new_x)))
          (joined_self (turn new_system) dart_twin d)
      | inr not_x ↦ elim (cases_Bool (same_dart d y)) [
        | inl e ↦ subst (Joined (turn new_system) dart_twin d) (sym (turn_outside old_system d (ap (stands_in old_system) (same_dart_true d y e) ∙ new_y)))
            (joined_self (turn new_system) dart_twin d)
        | inr not_y ↦ elim (turn_of_old d not_x not_y) [
          | inl same ↦ subst (Joined (turn new_system) dart_twin d) same (joined_move (turn new_system) dart_twin Turn d)
          | inr between ↦ joined_through (turn new_system) dart_twin d x (turn old_system d)
              (subst (Joined (turn new_system) dart_twin d) between.0 (joined_move (turn new_system) dart_twin Turn d))
              (subst (Joined (turn new_system) dart_twin x) between.1 (joined_move (turn new_system) dart_twin Turn x))
        ]
      ]
    ]

    moves_joined : (moves : List Move) (c : Dart) → Joined (turn new_system) dart_twin c (along (turn old_system) dart_twin moves c)
    moves_joined [] c = joined_self (turn new_system) dart_twin c
    moves_joined (Turn ∷ moves) c = joined_through (turn new_system) dart_twin c (along (turn old_system) dart_twin moves c) _ (moves_joined moves c)
        (old_turn_joined (along (turn old_system) dart_twin moves c))
    moves_joined (Cross ∷ moves) c = joined_through (turn new_system) dart_twin c (along (turn old_system) dart_twin moves c) _ (moves_joined moves c)
        (joined_move (turn new_system) dart_twin Cross (along (turn old_system) dart_twin moves c))

    -- what was joined stays joined
    pub stays_joined : (c d : Dart) → Joined (turn old_system) dart_twin c d → Joined (turn new_system) dart_twin c d
    stays_joined c d joined = subst (Joined (turn new_system) dart_twin c) joined.leads (moves_joined joined.moves c)

    module _ (once : (d : Dart) → count_by (same_dart d) (darts_in old_system) ≤ 1) where
      few_around : (d : Dart) → count_by (same_dart d) (z ∷ zs) ≤ 1
      few_around d = let all = count_old d in let most = once d in omega arith

      -- some old dart turns to the new one
      pub reaches_new : (d : Dart) × (stands_in old_system d ≡ true) × (turn new_system d ≡ x)
      reaches_new =
          let last = dart_before z x z zs ys few_around in
          let d = last.0 in
          let in_list : has_dart (z ∷ zs ++ ys) d ≡ true = has_dart-append (z ∷ zs) ys d ∙ or_left (has_dart (z ∷ zs) d) (has_dart ys d) last.1 in
          let in_new : has_dart (z ∷ zs ++ x ∷ ys) d ≡ true = has_dart-append (z ∷ zs) (x ∷ ys) d
          ∙ or_left (has_dart (z ∷ zs) d) (has_dart (x ∷ ys) d) last.1 in
          let old = in_old d in_list in
          let not_y : same_dart d y ≡ false = grind (arith, cases_Bool, false≢true, same_dart_true) in
          let not_before : stands_in before d ≡ false = elim (cases_Bool (stands_in before d)) [
            | inl e ↦ absurd (
                let all = count_old d in
                let most = once d in
                let here = any_counted (same_dart d) (z ∷ zs) last.1 in
                let there = any_counted (same_dart d) (darts_in before) e in omega arith)
            | inr e ↦ e
          ] in grind (arith, new_in_parts, turn_second, turn_at)

    module _ (once : (d : Dart) → count_by (same_dart d) (darts_in old_system) ≤ 1) (connected : Connected old_system) where
      head_or : (first : Dart) (cs : List Dart) → (slice_index_or cs 0 first ≡ first) ⊎ (has_dart cs (slice_index_or cs 0 first) ≡ true)
      head_or first [] = inl refl
      head_or first (c ∷ cs) = inr (ap (λ b. b || has_dart cs c) (same_dart_self c))

      -- and the new one turns to an old dart
      next_is_old : stands_in old_system (slice_index_or ys 0 z) ≡ true
      next_is_old = grind (arith, head_or, in_old, has_dart-append, or_right)

      x_leads : Joined (turn new_system) dart_twin x (slice_index_or ys 0 z)
      x_leads = subst (Joined (turn new_system) dart_twin x) turn_of_new (joined_move (turn new_system) dart_twin Turn x)

      y_leads : Joined (turn new_system) dart_twin y x
      y_leads = subst (Joined (turn new_system) dart_twin y) (sym (ap dart_twin twins) ∙ twin-twin x) (joined_move (turn new_system) dart_twin Cross y)

      x_to_y : Joined (turn new_system) dart_twin x y
      x_to_y = subst (Joined (turn new_system) dart_twin x) twins (joined_move (turn new_system) dart_twin Cross x)

      -- each dart leads to an old one, and from an old one
      abbrev LeadsToOld : Dart → Type 0
      LeadsToOld c = (o : Dart) × (stands_in old_system o ≡ true) × Joined (turn new_system) dart_twin c o

      abbrev LedFromOld : Dart → Type 0
      LedFromOld c = (o : Dart) × (stands_in old_system o ≡ true) × Joined (turn new_system) dart_twin o c

      leads_to_old : (c : Dart) → stands_in new_system c ≡ true → LeadsToOld c
      leads_to_old c h = elim (new_or_old c h) [
        | inl old ↦ (c, old, joined_self (turn new_system) dart_twin c)
        | inr k ↦ grind (arith, next_is_old, x_leads, joined_through, y_leads)
      ]

      led_from_old : (c : Dart) → stands_in new_system c ≡ true → LedFromOld c
      led_from_old c h =
          let o = (reaches_new once).0 in
          let to_x : Joined (turn new_system) dart_twin o x =
          subst (Joined (turn new_system) dart_twin o) (reaches_new once).2 (joined_move (turn new_system) dart_twin Turn o) in
          elim (new_or_old c h) [
            | inl old ↦ (c, old, joined_self (turn new_system) dart_twin c)
            | inr k ↦ elim k [
              | inl is_x ↦ subst LedFromOld (sym is_x) (o, (reaches_new once).1, to_x)
              | inr is_y ↦ subst LedFromOld (sym is_y) (o, (reaches_new once).1, joined_through (turn new_system) dart_twin o x y to_x x_to_y)
            ]
          ]

      -- the new system is connected
      pub stays_connected : Connected new_system
      stays_connected = record {
        no_bare_point = bare_new;
        joined = λ c d from to.
            let first = leads_to_old c from in
            let last = led_from_old d to in
            joined_through (turn new_system) dart_twin c first.0 d first.2
            (joined_through (turn new_system) dart_twin first.0 last.0 d (stays_joined first.0 last.0 (connected.joined first.0 last.0 first.1 last.1)) last.2);
      } where
        bare_new : any_bare new_system ≡ false
        bare_new = no_bare before after crossings (z ∷ zs ++ ys) (z ∷ zs ++ x ∷ ys) y (eqb_more (length (z ∷ zs ++ x ∷ ys)) 0 (omega arith))
            connected.no_bare_point
