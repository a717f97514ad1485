-- Sums and counts over lists, and what stands in a list whose ids rise.
use Rattle.std.proofs.Common.{◌≡◌, ◌+◌, ◌<◌, ◌≤◌, ◌||◌, ap, arith, Bool, cond, eqb, false, inl, inr}
use Rattle.std.proofs.Common.{length, List, not, refl, Some, subst, suc, sym, true, zero, ℕ, [], ◌∙◌, ◌∷◌}
use Rattle.std.specs.Prelude.{count_by, find, flat_map, map, nat_lt, option_map, slice_get, sum_by, unwrap_or, ◌==◌}
use Rattle.std.specs.List.{list_any, position_or_len, range_with_len}
use Rattle.std.proofs.lemmas.Bool.Decides.{nat_tests}
use Rattle.std.proofs.lemmas.List.Sums.{sum_by-append, sum_by-cons}
use Rattle.std.proofs.lemmas.Bool.{cases_Bool, eq-eqb, eqb-true, false≢true}
use Rattle.topo_core.specs.Items.{IsIn, occurrences, rises_below}
use Rattle.topo_core.proofs.numbering.Members.{counted_at, left_true, right_true}

-- 1 where the test holds, and else 0
abbrev pub one : Bool → ℕ
one b = cond {A = ℕ} b 1 0

-- ---- Tests

-- numbers in order are not equal
pub eqb_less : (m n : ℕ) → m < n → eqb m n ≡ false
eqb_less m n h = grind (arith, nat_tests)

pub eqb_more : (m n : ℕ) → n < m → eqb m n ≡ false
eqb_more m n h = grind (arith, nat_tests)

-- the test of two numbers, the other way round
pub eqb_symm : (m n : ℕ) → eqb m n ≡ eqb n m
eqb_symm m n = grind (arith, nat_tests)

-- what the test of an order says
pub lt_of_test : (m n : ℕ) → nat_lt m n ≡ true → m < n
lt_of_test m n h = grind (arith, nat_tests)

pub le_of_test : (m n : ℕ) → nat_lt m n ≡ false → n ≤ m
le_of_test m n h = grind (arith, nat_tests)

-- and that an order passes it
pub lt_test : (m n : ℕ) → m < n → nat_lt m n ≡ true
lt_test m n h = grind (arith, nat_tests)

eqb_suc : (m n : ℕ) → eqb (suc m) (1 + n) ≡ eqb m n
eqb_suc m n = grind (arith, nat_tests)

-- what a test counts is at most 1
pub at_most_one : (t : Bool) (n : ℕ) → n ≡ one t → n ≤ 1
at_most_one true n e = omega arith
at_most_one false n e = omega arith

-- ---- Sums

-- equal terms have equal sums
pub sum_same : {X : Type 0} (f g : X → ℕ) (xs : List X) → ((x : X) → IsIn x xs → f x ≡ g x) → sum_by f xs ≡ sum_by g xs
sum_same f g [] same = refl
sum_same f g (x ∷ xs) same =
    let here = same x (inl refl) in
    let rest = sum_same f g xs (λ y h. same y (inr h)) in
    grind (arith, sum_by-cons)

-- a sum of nothing
pub sum_nothing : {X : Type 0} (f : X → ℕ) (xs : List X) → ((x : X) → IsIn x xs → f x ≡ 0) → sum_by f xs ≡ 0
sum_nothing f [] none = refl
sum_nothing f (x ∷ xs) none =
    let here = none x (inl refl) in
    let rest = sum_nothing f xs (λ y h. none y (inr h)) in
    let left = sum_by-cons f x xs in omega arith

-- a sum over images
pub sum_of_map : {X Y : Type 0} (g : Y → ℕ) (f : X → Y) (xs : List X) → sum_by g (map f xs) ≡ sum_by (λ x. g (f x)) xs
sum_of_map g f [] = refl
sum_of_map g f (x ∷ xs) =
    let rest = sum_of_map g f xs in
    let left = sum_by-cons g (f x) (map f xs) in
    let right = sum_by-cons (λ x. g (f x)) x xs in omega arith

-- a sum over joined lists is the sum of their sums
pub sum_joined : {X Y : Type 0} (g : Y → ℕ) (f : X → List Y) (xs : List X) → sum_by g (flat_map f xs) ≡ sum_by (λ x. sum_by g (f x)) xs
sum_joined g f [] = refl
sum_joined g f (x ∷ xs) =
    let rest = sum_joined g f xs in
    let left = sum_by-append g (f x) (flat_map f xs) in
    let right = sum_by-cons (λ x. sum_by g (f x)) x xs in omega arith

-- a sum under a test
pub sum_if : {X : Type 0} (t : Bool) (f : X → ℕ) (xs : List X) → sum_by (λ x. cond t (f x) 0) xs ≡ cond t (sum_by f xs) 0
sum_if true f xs = refl
sum_if false f xs = sum_nothing (λ x. 0) xs (λ x h. refl)

-- ---- Ids that rise

-- ids that rise after x are above it
pub ids_above : (limit x : ℕ) (xs : List ℕ) → rises_below limit (x ∷ xs) ≡ true → (y : ℕ) → IsIn y xs → x < y
ids_above limit x [] h y k = absurd k
ids_above limit x (z ∷ xs) h y (inl e) = let less = lt_of_test x z (left_true (nat_lt x z) (rises_below limit (z ∷ xs)) h) in omega arith
ids_above limit x (z ∷ xs) h y (inr k) =
    let less = lt_of_test x z (left_true (nat_lt x z) (rises_below limit (z ∷ xs)) h) in
    let more = ids_above limit z xs (right_true (nat_lt x z) (rises_below limit (z ∷ xs)) h) y k in omega arith

id_in : {X : Type 0} (id : X → ℕ) (x : X) (xs : List X) → IsIn x xs → IsIn (id x) (map id xs)
id_in id x [] h = absurd h
id_in id x (y ∷ xs) (inl e) = inl (ap id e)
id_in id x (y ∷ xs) (inr h) = inr (id_in id x xs h)

-- where ids rise, a sum over the items with one id is the term of the item that is found by it
pub sum_found : {X : Type 0} (id : X → ℕ) (g : X → ℕ) (limit k : ℕ) (xs : List X) → rises_below limit (map id xs) ≡ true
    → sum_by (λ x. cond {A = ℕ} (id x == k) (g x) 0) xs ≡ unwrap_or (option_map g (find (λ x. id x == k) xs)) 0
sum_found id g limit k [] rises = refl
sum_found id g limit k (x ∷ xs) rises = by_test (sum_found id g limit k xs (right_true _ (rises_below limit (map id xs)) rises)) (id x == k) refl where
  step : sum_by (λ x. cond {A = ℕ} (id x == k) (g x) 0) (x ∷ xs) ≡ cond {A = ℕ} (id x == k) (g x) 0 + sum_by (λ x. cond {A = ℕ} (id x == k) (g x) 0) xs
  step = sum_by-cons (λ x. cond {A = ℕ} (id x == k) (g x) 0) x xs

  no_other : id x ≡ k → sum_by (λ x. cond {A = ℕ} (id x == k) (g x) 0) xs ≡ 0
  no_other same = sum_nothing (λ x. cond {A = ℕ} (id x == k) (g x) 0) xs (λ y h.
      ap (λ (t : Bool). cond {A = ℕ} t (g y) 0)
      (eqb_more (id y) k (subst (λ n. n < id y) same (ids_above limit (id x) (map id xs) rises (id y) (id_in id y xs h)))))

  by_test : sum_by (λ x. cond {A = ℕ} (id x == k) (g x) 0) xs ≡ unwrap_or (option_map g (find (λ x. id x == k) xs)) 0 → (t : Bool) → (id x == k) ≡ t
      → sum_by (λ x. cond {A = ℕ} (id x == k) (g x) 0) (x ∷ xs) ≡ unwrap_or (option_map g (cond (id x == k) (Some x) (find (λ x. id x == k) xs))) 0
  by_test rest_found true e = grind (arith, no_other, eqb-true, step)
  by_test rest false e = cc

-- no number of a range above k is k
not_in_range : (k a n : ℕ) → k < a → sum_by (λ v. one (k == v)) (range_with_len a n) ≡ 0
not_in_range k a zero low = refl
not_in_range k a (suc n) low =
    let step = sum_by-cons (λ v. one (k == v)) a (range_with_len (a + 1) n) in
    let here : one (k == a) ≡ 0 = ap one (eqb_less k a low) in
    let rest = not_in_range k (a + 1) n (omega arith) in omega arith

past : (k a : ℕ) → eqb k a ≡ false → a ≤ k → a + 1 ≤ k
past k a fails low = grind (arith, nat_tests)

-- the number k stands once in a range that it lies in
pub once_in_range : (k a n : ℕ) → a ≤ k → k < a + n → sum_by (λ v. one (k == v)) (range_with_len a n) ≡ 1
once_in_range k a zero low high = absurd (omega arith)
once_in_range k a (suc n) low high = by_test (λ more. once_in_range k (a + 1) n more (omega arith)) (k == a) refl where
  step : sum_by (λ v. one (k == v)) (range_with_len a (suc n)) ≡ one (k == a) + sum_by (λ v. one (k == v)) (range_with_len (a + 1) n)
  step = sum_by-cons (λ v. one (k == v)) a (range_with_len (a + 1) n)

  by_test : (a + 1 ≤ k → sum_by (λ v. one (k == v)) (range_with_len (a + 1) n) ≡ 1) → (t : Bool) → (k == a) ≡ t
      → sum_by (λ v. one (k == v)) (range_with_len a (suc n)) ≡ 1
  by_test later true e = grind (arith, eqb-true, not_in_range, step)
  by_test later false e = grind (arith, past, step)

past_range : (k a n : ℕ) → a + n ≤ k → sum_by (λ v. one (k == v)) (range_with_len a n) ≡ 0
past_range k a zero high = refl
past_range k a (suc n) high =
    let step = sum_by-cons (λ v. one (k == v)) a (range_with_len (a + 1) n) in
    let here : one (k == a) ≡ 0 = ap one (eqb_more k a (omega arith)) in
    let rest = past_range k (a + 1) n (omega arith) in omega arith

-- how often k stands in the range of the first n numbers
pub in_first : (k n : ℕ) → sum_by (λ v. one (k == v)) (range_with_len 0 n) ≡ one (nat_lt k n)
in_first k n = grind (arith, cases_Bool, once_in_range, lt_of_test, past_range, le_of_test)

-- ---- Places in a list of numbers

-- a number under a test
pub weigh_yes : (t : Bool) (n : ℕ) → t ≡ true → cond {A = ℕ} t n 0 ≡ n
weigh_yes t n e = ap (λ (b : Bool). cond {A = ℕ} b n 0) e

pub weigh_no : (t : Bool) (n : ℕ) → t ≡ false → cond {A = ℕ} t n 0 ≡ 0
weigh_no t n e = ap (λ (b : Bool). cond {A = ℕ} b n 0) e

pub path_place_here : (x y : ℕ) (path : List ℕ) → eqb y x ≡ true → position_or_len (λ y. y == x) (y ∷ path) ≡ 0
path_place_here x y path e = ap (λ (t : Bool). cond {A = ℕ} (not t) (1 + position_or_len (λ y. y == x) path) 0) e

pub path_place_later : (x y : ℕ) (path : List ℕ) → eqb y x ≡ false → position_or_len (λ y. y == x) (y ∷ path) ≡ 1 + position_or_len (λ y. y == x) path
path_place_later x y path e = ap (λ (t : Bool). cond {A = ℕ} (not t) (1 + position_or_len (λ y. y == x) path) 0) e

-- where x stands at most once, x is counted at its place: so it is counted at place i where z stands just when it is z
pub place_test : (path : List ℕ) (i z x : ℕ) → slice_get path i ≡ Some z → occurrences x path ≤ 1
    → cond {A = ℕ} (i == position_or_len (λ y. y == x) path) (occurrences x path) 0 ≡ one (x == z)
place_test [] i z x at once = cc
place_test (y ∷ path) zero z x at once =
    let same : y ≡ z = cc in
    let step = sum_by-cons (λ y. one (y == x)) y path in
    grind (arith, cases_Bool, eqb-true, eq-eqb, path_place_here, weigh_yes, eqb_less, path_place_later, weigh_no, eqb_symm)
place_test (y ∷ path) (suc i) z x at once =
    let step = sum_by-cons (λ y. one (y == x)) y path in
    elim (cases_Bool (y == x)) [
      | inl e ↦
          let off : eqb (suc i) (position_or_len (λ y. y == x) (y ∷ path)) ≡ false = eqb_more (suc i) _ (let p = path_place_here x y path e in omega arith) in
          let here = weigh_no _ (occurrences x (y ∷ path)) off in
          let counted : one (y == x) ≡ 1 = ap one e in
          let wanted : one (x == z) ≡ 0 = elim (cases_Bool (x == z)) [
            | inl f ↦ absurd (let more = counted_at x path i (at ∙ ap Some (sym (eqb-true x z f))) in omega arith)
            | inr f ↦ ap one f
          ] in omega arith
      | inr e ↦
          let counted : one (y == x) ≡ 0 = ap one e in
          let all : occurrences x (y ∷ path) ≡ occurrences x path = omega arith in
          let shift : eqb (suc i) (position_or_len (λ y. y == x) (y ∷ path)) ≡ eqb i (position_or_len (λ y. y == x) path) =
          ap (eqb (suc i)) (path_place_later x y path e) ∙ eqb_suc i (position_or_len (λ y. y == x) path) in
          let rest = place_test path i z x at (omega arith) in
          ap (λ (t : Bool). cond {A = ℕ} t (occurrences x (y ∷ path)) 0) shift
          ∙ ap (λ (n : ℕ). cond {A = ℕ} (eqb i (position_or_len (λ y. y == x) path)) n 0) all ∙ rest
    ]

-- and past the end it is never counted
pub place_past : (path : List ℕ) (i x : ℕ) → length path ≤ i → cond {A = ℕ} (i == position_or_len (λ y. y == x) path) (occurrences x path) 0 ≡ 0
place_past [] i x past = elim (cases_Bool (i == 0)) [ inl e ↦ weigh_yes (i == 0) 0 e | inr e ↦ weigh_no (i == 0) 0 e ]
place_past (y ∷ path) zero x past = absurd (omega arith)
place_past (y ∷ path) (suc i) x past =
    let step = sum_by-cons (λ y. one (y == x)) y path in
    elim (cases_Bool (y == x)) [
      | inl e ↦ weigh_no _ (occurrences x (y ∷ path)) (eqb_more (suc i) _ (let p = path_place_here x y path e in omega arith))
      | inr e ↦
          let counted : one (y == x) ≡ 0 = ap one e in
          let all : occurrences x (y ∷ path) ≡ occurrences x path = omega arith in
          let shift : eqb (suc i) (position_or_len (λ y. y == x) (y ∷ path)) ≡ eqb i (position_or_len (λ y. y == x) path) =
          ap (eqb (suc i)) (path_place_later x y path e) ∙ eqb_suc i (position_or_len (λ y. y == x) path) in
          let rest = place_past path i x (omega arith) in
          ap (λ (t : Bool). cond {A = ℕ} t (occurrences x (y ∷ path)) 0) shift
          ∙ ap (λ (n : ℕ). cond {A = ℕ} (eqb i (position_or_len (λ y. y == x) path)) n 0) all ∙ rest
    ]

-- ---- Counts and tests of any

-- a list has an item that passes just when it counts one
pub any_counted : {X : Type 0} (p : X → Bool) (xs : List X) → list_any p xs ≡ true → 1 ≤ count_by p xs
any_counted p [] h = cc
any_counted p (x ∷ xs) h =
    let step = sum_by-cons (λ x. one (p x)) x xs in
    elim (cases_Bool (p x)) [
      | inl e ↦ let here : one (p x) ≡ 1 = ap one e in omega arith
      | inr e ↦ let rest = any_counted p xs (sym (ap (λ b. b || list_any p xs) e) ∙ h) in omega arith
    ]

-- where none passes none is counted
pub none_counted_any : {X : Type 0} (p : X → Bool) (xs : List X) → list_any p xs ≡ false → count_by p xs ≡ 0
none_counted_any p [] h = refl
none_counted_any p (x ∷ xs) h =
    let step = sum_by-cons (λ x. one (p x)) x xs in
    elim (cases_Bool (p x)) [
      | inl e ↦ absurd (false≢true (sym h ∙ ap (λ b. b || list_any p xs) e))
      | inr e ↦
          let here : one (p x) ≡ 0 = ap one e in
          let rest = none_counted_any p xs (sym (ap (λ b. b || list_any p xs) e) ∙ h) in omega arith
    ]

-- what is counted once or never stands in the list or does not
pub counted_any : {X : Type 0} (p : X → Bool) (xs : List X) (t : Bool) → count_by p xs ≡ one t → list_any p xs ≡ t
counted_any p xs true e = elim (cases_Bool (list_any p xs)) [ inl h ↦ h | inr h ↦ absurd (let z = none_counted_any p xs h in omega arith) ]
counted_any p xs false e = elim (cases_Bool (list_any p xs)) [ inl h ↦ absurd (let z = any_counted p xs h in omega arith) | inr h ↦ h ]
