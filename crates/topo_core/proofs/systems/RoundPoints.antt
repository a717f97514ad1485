-- What comes next round a point: the list may begin anywhere, and one dart may be taken out.
use Rattle.std.proofs.Common.{◌≡◌, ◌≤◌, ◌||◌, ap, append-nil, append_assoc, arith, Bool, cond}
use Rattle.std.proofs.Common.{false, inl, inr, List, refl, subst, sym, true, ℕ, [], ◌++◌, ◌∙◌, ◌∷◌}
use Rattle.std.specs.Prelude.{filter, not, slice_index_or, ◌==◌, ◌⊎◌}
use Rattle.std.proofs.lemmas.List.Sums.{sum_by-append, sum_by-cons}
use Rattle.std.proofs.lemmas.Bool.{cases_Bool, eqb-true, or_left, or_right}
use Rattle.topo_core.specs.declared.darts.Dart.{Dart}
use Rattle.topo_core.specs.Darts.{same_dart}
use Rattle.topo_core.specs.Items.{occurrences}
use Rattle.topo_core.specs.Systems.{follower, has_dart}
use Rattle.topo_core.proofs.numbering.Counting.{one}
use Rattle.topo_core.proofs.numbering.DartLaws.{same_dart_self, same_dart_true}
use Rattle.topo_core.proofs.numbering.Members.{or_second}
use Rattle.topo_core.proofs.systems.NewDarts.{follower_new, has_dart-append}
use Rattle.topo_core.proofs.routing.RouteDarts.{has_item}
use Rattle.topo_core.proofs.systems.Turning.{distinct_right, IsDistinct, next_around, not_in_both}

-- ---- Lists that begin elsewhere

-- the two parts of a list, exchanged
pub distinct_exchanged : (xs ys : List Dart) → IsDistinct (xs ++ ys) → IsDistinct (ys ++ xs)
distinct_exchanged xs ys distinct = record {
  once = λ d.
      let one_way = sum_by-append (λ c. one (same_dart d c)) xs ys in
      let other_way = sum_by-append (λ c. one (same_dart d c)) ys xs in
      let most = distinct.once d in omega arith;
}

or_exchanged : (a b : Bool) → (a || b) ≡ (b || a)
or_exchanged true true = refl
or_exchanged true false = refl
or_exchanged false true = refl
or_exchanged false false = refl

pub has_exchanged : (xs ys : List Dart) (d : Dart) → has_dart (xs ++ ys) d ≡ has_dart (ys ++ xs) d
has_exchanged xs ys d = has_dart-append xs ys d ∙ or_exchanged (has_dart xs d) (has_dart ys d) ∙ sym (has_dart-append ys xs d)

first_or : (x first : Dart) (zs : List Dart) → slice_index_or (zs ++ x ∷ []) 0 first ≡ slice_index_or zs 0 x
first_or x first [] = refl
first_or x first (z ∷ zs) = refl

-- the last of a list is what follows at its end
follower_last : (first x d : Dart) (zs : List Dart) → has_dart zs d ≡ true → follower first (zs ++ x ∷ []) d ≡ follower x zs d
follower_last first x d [] h = cc
follower_last first x d (z ∷ zs) h = elim (cases_Bool (same_dart d z)) [
  | inl e ↦ grind (arith, first, first_or)
  | inr e ↦
      ap (λ (t : Bool). cond t (slice_index_or (zs ++ x ∷ []) 0 first) (follower first (zs ++ x ∷ []) d)) e
      ∙ follower_last first x d zs (or_second (same_dart d z) (has_dart zs d) e h)
      ∙ sym (ap (λ (t : Bool). cond t (slice_index_or zs 0 x) (follower x zs d)) e)
]

-- the first dart, put at the end
next_turned : (x : Dart) (xs : List Dart) (d : Dart) → IsDistinct (x ∷ xs) → has_dart (x ∷ xs) d ≡ true → next_around (x ∷ xs) d ≡ next_around (xs ++ x ∷ []) d
next_turned x [] d distinct h = refl
next_turned x (y ∷ ys) d distinct h = elim (cases_Bool (same_dart d x)) [
  | inl e ↦
      let is = same_dart_true d x e in
      let elsewhere : has_dart (y ∷ ys) x ≡ false = elim (cases_Bool (has_dart (y ∷ ys) x)) [
        | inl k ↦ absurd (not_in_both (x ∷ []) (y ∷ ys) x distinct (has_item x (x ∷ []) (inl refl)) k)
        | inr k ↦ k
      ] in
      grind (arith, follower_new)
  | inr e ↦
      ap (λ (t : Bool). cond t y (follower x (y ∷ ys) d)) e
      ∙ sym (follower_last y x d (y ∷ ys) (or_second (same_dart d x) (has_dart (y ∷ ys) d) e h))
]

-- the list may begin anywhere
pub next_rotated : (front back : List Dart) (d : Dart) → IsDistinct (front ++ back) → has_dart (front ++ back) d ≡ true
    → next_around (front ++ back) d ≡ next_around (back ++ front) d
next_rotated [] back d distinct h = ap (λ ds. next_around ds d) (sym (append-nil back))
next_rotated (x ∷ front) back d distinct h =
    let moved = append_assoc front back (x ∷ []) in
    next_turned x (front ++ back) d distinct h
    ∙ ap (λ ds. next_around ds d) moved
    ∙ next_rotated front (back ++ x ∷ []) d
    (subst IsDistinct moved (distinct_exchanged (x ∷ []) (front ++ back) distinct))
    (sym (ap (λ ds. has_dart ds d) moved) ∙ has_exchanged (front ++ back) (x ∷ []) d ∙ h)
    ∙ ap (λ ds. next_around ds d) (append_assoc back (x ∷ []) front)

-- ---- A dart taken out

-- what follows, where the last is followed by another
follower_by : (first other d : Dart) (zs : List Dart) → (follower first zs d ≡ follower other zs d)
    ⊎ ((follower first zs d ≡ first) × (follower other zs d ≡ other))
follower_by first other d [] = inr (refl, refl)
follower_by first other d (z ∷ []) = grind (arith, cases_Bool, first)
follower_by first other d (z ∷ y ∷ zs) = elim (cases_Bool (same_dart d z)) [
  | inl e ↦ inl (ap (λ (t : Bool). cond t y (follower first (y ∷ zs) d)) e ∙ sym (ap (λ (t : Bool). cond t y (follower other (y ∷ zs) d)) e))
  | inr e ↦
      let now = ap (λ (t : Bool). cond t y (follower first (y ∷ zs) d)) e in
      let then = ap (λ (t : Bool). cond t y (follower other (y ∷ zs) d)) e in
      elim (follower_by first other d (y ∷ zs)) [
        | inl same ↦ inl (now ∙ same ∙ sym then)
        | inr ends ↦ inr (now ∙ ends.0, then ∙ ends.1)
      ]
]

-- the first of a list is followed by the next
pub next_of_first : (x : Dart) (zs : List Dart) → next_around (x ∷ zs) x ≡ slice_index_or zs 0 x
next_of_first x zs = ap (λ (t : Bool). cond t (slice_index_or zs 0 x) (follower x zs x)) (same_dart_self x)

next_but_first : (x d : Dart) (zs : List Dart) → same_dart d x ≡ false → has_dart zs d ≡ true
    → (next_around (x ∷ zs) d ≡ next_around zs d) ⊎ ((next_around (x ∷ zs) d ≡ x) × (next_around (x ∷ zs) x ≡ next_around zs d))
next_but_first x d [] other h = cc
next_but_first x d (z ∷ zs) other h =
    let now = ap (λ (t : Bool). cond t z (follower x (z ∷ zs) d)) other in
    elim (follower_by x z d (z ∷ zs)) [
      | inl same ↦ inl (now ∙ same)
      | inr ends ↦ inr (now ∙ ends.0, next_of_first x (z ∷ zs) ∙ sym ends.1)
    ]

-- wherever x stands
pub next_without : (front back : List Dart) (x d : Dart) → IsDistinct (front ++ x ∷ back) → same_dart d x ≡ false → has_dart (front ++ back) d ≡ true
    → (next_around (front ++ x ∷ back) d ≡ next_around (front ++ back) d)
    ⊎ ((next_around (front ++ x ∷ back) d ≡ x) × (next_around (front ++ x ∷ back) x ≡ next_around (front ++ back) d))
next_without front back x d distinct other h =
    let turned = distinct_exchanged front (x ∷ back) distinct in
    let fewer : IsDistinct (back ++ front) = distinct_right (x ∷ []) (back ++ front) turned in
    grind (arith, back, front, has_exchanged, or_right, or_left, same_dart_self, next_rotated, next_but_first)

-- what follows x: the first behind it, or from the start
pub next_of_taken : (front back : List Dart) (x : Dart) → IsDistinct (front ++ x ∷ back)
    → next_around (front ++ x ∷ back) x ≡ slice_index_or (back ++ front) 0 x
next_of_taken front back x distinct = grind (arith, next_rotated, front, back, has_exchanged, or_left, same_dart_self, next_of_first)

-- ---- Four darts

-- each of four darts is followed by the next, and the last by the first
pub record NextOfFour (a b c d : Dart) : Type 0 where
  pub first : next_around (a ∷ b ∷ c ∷ d ∷ []) a ≡ b
  pub second : next_around (a ∷ b ∷ c ∷ d ∷ []) b ≡ c
  pub third : next_around (a ∷ b ∷ c ∷ d ∷ []) c ≡ d
  pub last : next_around (a ∷ b ∷ c ∷ d ∷ []) d ≡ a

pub next_of_four : (a b c d : Dart) → IsDistinct (a ∷ b ∷ c ∷ d ∷ []) → NextOfFour a b c d
next_of_four a b c d distinct =
    let four = a ∷ b ∷ c ∷ d ∷ [] in
    record {
      first = next_of_first a (b ∷ c ∷ d ∷ []);
      second = next_rotated (a ∷ []) (b ∷ c ∷ d ∷ []) b distinct (has_item b four (inr (inl refl))) ∙ next_of_first b (c ∷ d ∷ a ∷ []);
      third = next_rotated (a ∷ b ∷ []) (c ∷ d ∷ []) c distinct (has_item c four (inr (inr (inl refl)))) ∙ next_of_first c (d ∷ a ∷ b ∷ []);
      last = next_rotated (a ∷ b ∷ c ∷ []) (d ∷ []) d distinct (has_item d four (inr (inr (inr (inl refl))))) ∙ next_of_first d (a ∷ b ∷ c ∷ []);
    }

-- ---- One number taken out of a list

not_counted : (e : ℕ) (xs : List ℕ) → occurrences e xs ≡ 0 → filter (λ f. not (f == e)) xs ≡ xs
not_counted e [] none = refl
not_counted e (x ∷ xs) none =
    let step = sum_by-cons (λ y. one (y == e)) x xs in
    elim (cases_Bool (x == e)) [
      | inl k ↦ absurd (let here : one (x == e) ≡ 1 = ap one k in omega arith)
      | inr k ↦
          let here : one (x == e) ≡ 0 = ap one k in
          ap (λ (t : Bool). cond (not t) (x ∷ filter (λ f. not (f == e)) xs) (filter (λ f. not (f == e)) xs)) k
          ∙ ap (λ list. x ∷ list) (not_counted e xs (omega arith))
    ]

-- the list around a number that stands in it once
pub record IsTakenOut (e : ℕ) (xs : List ℕ) : Type 0 where
  pub front : List ℕ
  pub back : List ℕ
  pub was : xs ≡ front ++ e ∷ back
  pub now : filter (λ f. not (f == e)) xs ≡ front ++ back

-- a number stands in the list once, or the list stays
pub taken_out : (e : ℕ) (xs : List ℕ) → occurrences e xs ≤ 1 → IsTakenOut e xs ⊎ (filter (λ f. not (f == e)) xs ≡ xs)
taken_out e [] once = inr refl
taken_out e (x ∷ xs) once =
    let step = sum_by-cons (λ y. one (y == e)) x xs in
    elim (cases_Bool (x == e)) [
      | inl k ↦ grind (arith, one, eqb-true, not_counted)
      | inr k ↦
          let here : one (x == e) ≡ 0 = ap one k in
          let kept = ap (λ (t : Bool). cond (not t) (x ∷ filter (λ f. not (f == e)) xs) (filter (λ f. not (f == e)) xs)) k in
          elim (taken_out e xs (omega arith)) [
            | inl rest ↦ inl (record {
              front = x ∷ rest.front;
              back = rest.back;
              was = ap (λ list. x ∷ list) rest.was;
              now = kept ∙ ap (λ list. x ∷ list) rest.now;
            })
            | inr same ↦ inr (kept ∙ ap (λ list. x ∷ list) same)
          ]
    ]
