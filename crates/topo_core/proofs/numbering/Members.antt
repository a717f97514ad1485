-- Members of lists.
use Rattle.std.proofs.Common.{◌≡◌, ◌||◌, ℕ, zero, suc, ◌+◌, ◌<◌, ◌≤◌, Bool, true, false, cond, ◌&&◌}
use Rattle.std.proofs.Common.{List, [], ◌∷◌, ◌++◌, Some, eqb, refl, sym, ap, subst, ◌∙◌, arith, inl, inr}
use Rattle.std.specs.Prelude.{map, flat_map, find, slice_get, count_by}
use Rattle.std.specs.List.{list_all, range_with_len}
use Rattle.std.proofs.lemmas.Bool.Decides.{nat_tests}
use Rattle.topo_core.specs.Items.{IsIn}
use Rattle.std.proofs.lemmas.List.Sums.{sum_by-cons}
use Rattle.std.proofs.lemmas.Bool.{eq-eqb, eqb-true}

-- items of the first part
pub in_left : {X : Type 0} (x : X) (xs ys : List X) → IsIn x xs → IsIn x (xs ++ ys)
in_left x (y ∷ xs) ys (inl e) = inl e
in_left x (y ∷ xs) ys (inr h) = inr (in_left x xs ys h)
in_left x [] ys h = absurd h

-- items of the second part
pub in_right : {X : Type 0} (x : X) (xs ys : List X) → IsIn x ys → IsIn x (xs ++ ys)
in_right x [] ys h = h
in_right x (y ∷ xs) ys h = inr (in_right x xs ys h)

-- images of items
pub in_map : {X Y : Type 0} (f : X → Y) (x : X) (xs : List X) → IsIn x xs → IsIn (f x) (map f xs)
in_map f x [] h = absurd h
in_map f x (y ∷ xs) (inl e) = inl (ap f e)
in_map f x (y ∷ xs) (inr h) = inr (in_map f x xs h)

-- an item of one of the lists is an item of all of them together
pub in_joined : {X : Type 0} (x : X) (xs : List X) (lists : List (List X)) → IsIn x xs → IsIn xs lists → IsIn x (flat_map (λ list. list) lists)
in_joined x xs [] h k = absurd k
in_joined x xs (list ∷ lists) h (inl e) = in_left x list (flat_map (λ list. list) lists) (subst (IsIn x) e h)
in_joined x xs (list ∷ lists) h (inr k) = in_right x list (flat_map (λ list. list) lists) (in_joined x xs lists h k)

-- the parts of a test that holds
pub left_true : (a b : Bool) → (a && b) ≡ true → a ≡ true
left_true true b h = refl
left_true false b h = h

pub right_true : (a b : Bool) → (a && b) ≡ true → b ≡ true
right_true true b h = h
right_true false b h = cc

-- the second of two tests, where the first fails
pub or_second : (a b : Bool) → a ≡ false → (a || b) ≡ true → b ≡ true
or_second true b e h = cc
or_second false b e h = h

-- what a test says of each item
pub test_of_each : {X : Type 0} (p : X → Bool) (x : X) (xs : List X) → list_all p xs ≡ true → IsIn x xs → p x ≡ true
test_of_each p x [] all h = absurd h
test_of_each p x (y ∷ xs) all (inl e) = ap p e ∙ left_true (p y) (list_all p xs) all
test_of_each p x (y ∷ xs) all (inr h) = test_of_each p x xs (right_true (p y) (list_all p xs) all) h

found_here : {X : Type 0} (p : X → Bool) (x y : X) (xs : List X) → p y ≡ true → find p (y ∷ xs) ≡ Some x → y ≡ x
found_here p x y xs passes e = let here : find p (y ∷ xs) ≡ Some y = ap (λ b. cond b (Some y) (find p xs)) passes in cc

found_later : {X : Type 0} (p : X → Bool) (x y : X) (xs : List X) → p y ≡ false → find p (y ∷ xs) ≡ Some x → find p xs ≡ Some x
found_later p x y xs fails e = let there : find p (y ∷ xs) ≡ find p xs = ap (λ b. cond b (Some y) (find p xs)) fails in cc

-- what is found is an item and passes the test
pub found : {X : Type 0} (p : X → Bool) (x : X) (xs : List X) → find p xs ≡ Some x → IsIn x xs × (p x ≡ true)
found p x [] e = cc
found p x (y ∷ xs) e =
    let by_test : (b : Bool) → p y ≡ b → IsIn x (y ∷ xs) × (p x ≡ true) = λ b. elim b as (λ b. p y ≡ b → IsIn x (y ∷ xs) × (p x ≡ true)) [
      | true ↦ (λ passes. let same : y ≡ x = found_here p x y xs passes e in (inl (sym same), ap p (sym same) ∙ passes))
      | false ↦ (λ fails. let rest = found p x xs (found_later p x y xs fails e) in (inr rest.0, rest.1))
    ] in by_test (p y) refl

past : (v a : ℕ) → eqb v a ≡ false → a ≤ v → a + 1 ≤ v
past v a fails low = grind (arith, nat_tests)

-- the numbers from a on, n in all
pub in_range : (a n v : ℕ) → a ≤ v → v < a + n → IsIn v (range_with_len a n)
in_range a zero v low high = absurd (omega arith)
in_range a (suc n) v low high =
    let by_test : (b : Bool) → eqb v a ≡ b → IsIn v (range_with_len a (suc n)) = λ b. elim b as (λ b. eqb v a ≡ b → IsIn v (range_with_len a (suc n))) [
      | true ↦ (λ passes. inl (eqb-true v a passes))
      | false ↦ (λ fails. inr (in_range (a + 1) n v (past v a fails low) (omega arith)))
    ] in by_test (eqb v a) refl

-- the numbers of a range
pub range_from : (v a n : ℕ) → IsIn v (range_with_len a n) → a ≤ v
range_from v a zero h = absurd h
range_from v a (suc n) (inl e) = omega arith
range_from v a (suc n) (inr h) = let k = range_from v (a + 1) n h in omega arith

pub range_below : (v a n : ℕ) → IsIn v (range_with_len a n) → v < a + n
range_below v a zero h = absurd h
range_below v a (suc n) (inl e) = omega arith
range_below v a (suc n) (inr h) = let k = range_below v (a + 1) n h in omega arith

-- ---- Places

-- what stands at a place is counted
pub counted_at : (x : ℕ) (xs : List ℕ) (i : ℕ) → slice_get xs i ≡ Some x → 1 ≤ count_by (λ y. eqb y x) xs
counted_at x [] i e = cc
counted_at x (y ∷ xs) zero e =
    let same : y ≡ x = cc in
    let one : cond {A = ℕ} (eqb y x) 1 0 ≡ 1 = ap (λ (t : Bool). cond {A = ℕ} t 1 0) (eq-eqb y x same) in
    let step = sum_by-cons (λ y. cond (eqb y x) 1 0) y xs in omega arith
counted_at x (y ∷ xs) (suc i) e =
    let step = sum_by-cons (λ y. cond (eqb y x) 1 0) y xs in
    let rest = counted_at x xs i e in omega arith
