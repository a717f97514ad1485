-- Changes of a permutation at a few points below n, and counts carried from one set of numbers to another.
use Rattle.std.proofs.Common.{◌≡◌, ◌≢◌, ℕ, zero, suc, ◌+◌, ◌<◌, ◌≤◌, ◌==◌, Bool, true, false, cond, ◌&&◌, ◌⊎◌, not, inl, inr, refl, sym, ◌∙◌, ap, arith, ltb}
use Rattle.std.proofs.lemmas.Bool.{cases_Bool, cases_eq, cases_lt, cond-true, cond-false, lt-ltb, le-ltb, both_ways}
use Rattle.std.proofs.lemmas.Bool.{eq-eqb, ne_eqb, and_from, and_left, and_right, not_from_true, not_from_false}
use Rattle.topo_core.specs.Cycles.{IsPermutation, IsBypass, after, SameCycle, is_met, is_first, count_below, class_count, cycle_count}
use Rattle.topo_core.proofs.Interface.{FirstAt, after-within, period, search_below}
use Rattle.topo_perm.proofs.permutations.Classes.{some_below-same, class_count-same, count_below-more, IsEquivalence, first-before, is_first-from}
use Rattle.topo_perm.proofs.permutations.Exchange.{IsExchange, exchange_splits, exchange_joins, exchange_parts, kept, spread, Together, IsExchange-permutation}

-- maps that agree below n have as many cycles
pub after-same : (f g : ℕ → ℕ) (n : ℕ) → IsPermutation f n → ((a : ℕ) → a < n → f a ≡ g a) → (k a : ℕ) → a < n → after f k a ≡ after g k a
after-same f g n h e zero a l = refl
after-same f g n h e (suc k) a l = e (after f k a) (after-within f n h k a l) ∙ ap g (after-same f g n h e k a l)

pub cycle_count-same : (f g : ℕ → ℕ) (n : ℕ) → IsPermutation f n → ((a : ℕ) → a < n → f a ≡ g a) → cycle_count f n ≡ cycle_count g n
cycle_count-same f g n h e =
    class_count-same (is_met f n) (is_met g n) n (λ a b la lb.
    some_below-same (λ k. after f k a == b) (λ k. after g k a == b) n (λ k _. ap (λ v. v == b) (after-same f g n h e k a la)))

pub IsPermutation-same : (f g : ℕ → ℕ) (n : ℕ) → IsPermutation f n → ((a : ℕ) → a < n → f a ≡ g a) → IsPermutation g n
IsPermutation-same f g n h e = grind arith

-- g is f with the images of i and j exchanged, below n
pub record IsExchangeBelow (f g : ℕ → ℕ) (n i j : ℕ) : Type 0 where
  pub at_first : g i ≡ f j
  pub at_second : g j ≡ f i
  pub elsewhere : (a : ℕ) → a < n → a ≢ i → a ≢ j → g a ≡ f a

abbrev patched : (ℕ → ℕ) → (ℕ → ℕ) → ℕ → ℕ → ℕ
patched f g n a = cond (ltb a n) (g a) (f a)

patched-below : (f g : ℕ → ℕ) (n a : ℕ) → a < n → patched f g n a ≡ g a
patched-below f g n a l = cond-true _ _ _ (lt-ltb _ _ l)

patched-exchange : (f g : ℕ → ℕ) (n i j : ℕ) → i < n → j < n → IsExchangeBelow f g n i j → IsExchange f (patched f g n) i j
patched-exchange f g n i j li lj x = grind (arith, patched-below, cases_lt, cond-false, le-ltb)

pub exchanged-permutation : (f g : ℕ → ℕ) (n i j : ℕ) → IsPermutation f n → i < n → j < n → IsExchangeBelow f g n i j → IsPermutation g n
exchanged-permutation f g n i j h li lj x =
    IsPermutation-same (patched f g n) g n (IsExchange-permutation f (patched f g n) n i j h li lj (patched-exchange f g n i j li lj x))
    (λ a la. patched-below f g n a la)

patched-count : (f g : ℕ → ℕ) (n i j : ℕ) → IsPermutation f n → i < n → j < n → IsExchangeBelow f g n i j → cycle_count (patched f g n) n ≡ cycle_count g n
patched-count f g n i j h li lj x =
    cycle_count-same (patched f g n) g n (IsExchange-permutation f (patched f g n) n i j h li lj (patched-exchange f g n i j li lj x))
    (λ a la. patched-below f g n a la)

pub exchanged_splits : {f g : ℕ → ℕ} {n i j : ℕ} → IsPermutation f n → i < n → j < n → i ≢ j → IsExchangeBelow f g n i j → SameCycle f i j
    → cycle_count g n ≡ cycle_count f n + 1
exchanged_splits {f} {g} {n} {i} {j} h li lj ne x s =
    sym (patched-count f g n i j h li lj x) ∙ exchange_splits h li lj ne (patched-exchange f g n i j li lj x) s

pub exchanged_joins : {f g : ℕ → ℕ} {n i j : ℕ} → IsPermutation f n → i < n → j < n → i ≢ j → IsExchangeBelow f g n i j → (SameCycle f i j → ⊥)
    → cycle_count f n ≡ cycle_count g n + 1
exchanged_joins {f} {g} {n} {i} {j} h li lj ne x s =
    exchange_joins h li lj ne (patched-exchange f g n i j li lj x) s ∙ ap (λ c. c + 1) (patched-count f g n i j h li lj x)

pub SameCycle-same : (f g : ℕ → ℕ) (n : ℕ) → IsPermutation f n → ((a : ℕ) → a < n → f a ≡ g a) → (a b : ℕ) → a < n → SameCycle f a b → SameCycle g a b
SameCycle-same f g n h e a b la s = record { steps = s.steps; leads = sym (after-same f g n h e s.steps a la) ∙ s.leads }

-- where an exchange brings i and j together, it parts no others
pub exchanged_keeps : {f g : ℕ → ℕ} {n i j : ℕ} → IsPermutation f n → i < n → j < n → IsExchangeBelow f g n i j → SameCycle g i j → {a b : ℕ} → a < n
    → SameCycle f a b → SameCycle g a b
exchanged_keeps {f} {g} {n} {i} {j} h li lj x met {a} {b} la s =
    let hp : IsPermutation (patched f g n) n = IsExchange-permutation f (patched f g n) n i j h li lj (patched-exchange f g n i j li lj x) in
    let there : (a : ℕ) → a < n → patched f g n a ≡ g a = λ a la. patched-below f g n a la in
    let back : (a : ℕ) → a < n → g a ≡ patched f g n a = λ a la. sym (patched-below f g n a la) in
    let hg : IsPermutation g n = exchanged-permutation f g n i j h li lj x in
    SameCycle-same (patched f g n) g n hp there a b la
    (kept hp li lj (patched-exchange f g n i j li lj x) (SameCycle-same g (patched f g n) n hg back i j li met) a b s)

-- an exchange brings together only what lay with i and what lay with j
pub exchanged_spread : {f g : ℕ → ℕ} {n i j : ℕ} → IsPermutation f n → i < n → j < n → IsExchangeBelow f g n i j → {a b : ℕ} → a < n → SameCycle g a b
    → Together f i j a b
exchanged_spread {f} {g} {n} {i} {j} h li lj x {a} {b} la s =
    spread f (patched f g n) i j (patched-exchange f g n i j li lj x) a b
    (SameCycle-same g (patched f g n) n (exchanged-permutation f g n i j h li lj x) (λ a la. sym (patched-below f g n a la)) a b la s)

-- of the two, one has i and j together
pub exchanged_apart : {f g : ℕ → ℕ} {n i j : ℕ} → IsPermutation f n → i < n → j < n → i ≢ j → IsExchangeBelow f g n i j → (SameCycle f i j → ⊥)
    → SameCycle g i j
exchanged_apart {f} {g} {n} {i} {j} h li lj ne x apart =
    let ex : IsExchange f (patched f g n) i j = patched-exchange f g n i j li lj x in
    elim (exchange_parts f (patched f g n) n i j h li lj ne ex) [
      | inl s ↦ absurd (apart s.before)
      | inr s ↦ SameCycle-same (patched f g n) g n (IsExchange-permutation f (patched f g n) n i j h li lj ex)
          (λ a la. patched-below f g n a la) i j li s.before
    ]

-- each number has one that leads to it
pub record HasBefore (f : ℕ → ℕ) (n i : ℕ) : Type 0 where
  pub place : ℕ
  pub within : place < n
  pub leads : f place ≡ i

pub before_of : (f : ℕ → ℕ) (n i : ℕ) → IsPermutation f n → i < n → HasBefore f n i
before_of f n i h li =
    let (d, ld, p) = period f n h i li in
    grind (arith, after-within)

-- a bypass is an exchange with the number before
pub bypass_exchange : (f g : ℕ → ℕ) (n i : ℕ) → IsPermutation f n → i < n → IsBypass f g n i → (b : HasBefore f n i) → b.place ≢ i
    → IsExchangeBelow f g n b.place i
bypass_exchange f g n i h li x b ne = grind arith

pub bypass_splits : (f g : ℕ → ℕ) (n i : ℕ) → IsPermutation f n → i < n → IsBypass f g n i → f i ≢ i → cycle_count g n ≡ cycle_count f n + 1
bypass_splits f g n i h li x moves =
    let b : HasBefore f n i = before_of f n i h li in
    let ne : b.place ≢ i = λ e. moves (ap f (sym e) ∙ b.leads) in
    exchanged_splits h b.within li ne (bypass_exchange f g n i h li x b ne) (record { steps = 1; leads = b.leads })

-- no more numbers pass p than pass q, where each that passes p has its own that passes q
pub count_below-into : (p q : ℕ → Bool) (n m : ℕ) (h : ℕ → ℕ) → ((a : ℕ) → a < n → p a ≡ true → h a < m) → ((a : ℕ) → a < n → p a ≡ true → q (h a) ≡ true)
    → ((a b : ℕ) → a < n → b < n → p a ≡ true → p b ≡ true → h a ≡ h b → a ≡ b) → count_below p n ≤ count_below q m
count_below-into p q zero m h w t s = omega arith
count_below-into p q (suc n) m h w t s =
    elim (cases_Bool (p n)) [
      | inr none ↦
          let low : count_below p n ≤ count_below q m =
          count_below-into p q n m h (λ a la. w a (omega arith)) (λ a la. t a (omega arith)) (λ a b la lb. s a b (omega arith) (omega arith)) in
          rw none (omega (arith, low))
      | inl here ↦
          let r : ℕ → Bool = λ y. q y && not (y == h n) in
          let low : count_below p n ≤ count_below r m =
          count_below-into p r n m h (λ a la. w a (omega arith))
          (λ a la e. and_from _ _ (t a (omega arith) e)
          (not_from_false _ (ne_eqb _ _ (λ (same : h a ≡ h n). absurd (omega (arith, s a n (omega arith) (omega arith) e here same))))))
          (λ a b la lb. s a b (omega arith) (omega arith)) in
          let one : count_below q m ≡ count_below r m + 1 =
          count_below-more q r m (h n) (w n (omega arith) here) (t n (omega arith) here)
          (and_right (q (h n)) (not (h n == h n)) (not_from_true (h n == h n) (eq-eqb (h n) (h n) refl)))
          (λ y ly ne. grind (arith, cases_Bool, and_from, not_from_false, ne_eqb, and_left)) in
          rw here (omega (arith, low, one))
    ]

-- h carries r on the numbers below n to s on those below m, and meets each class
pub record Carries (h : ℕ → ℕ) (r s : ℕ → ℕ → Bool) (n m : ℕ) : Type 0 where
  pub within : (a : ℕ) → a < n → h a < m
  pub same : (a b : ℕ) → a < n → b < n → s (h a) (h b) ≡ r a b
  pub from : ℕ → ℕ
  pub from_within : (y : ℕ) → y < m → from y < n
  pub meets : (y : ℕ) → y < m → s (h (from y)) y ≡ true

-- the first number of the class of a
pub record IsFirstOf (r : ℕ → ℕ → Bool) (a m : ℕ) : Type 0 where
  pub first : is_first r m ≡ true
  pub related : r m a ≡ true
  pub low : m ≤ a

Found : (ℕ → ℕ → Bool) → ℕ → Type 0
Found r a = ((k : ℕ) × (k < a) × FirstAt (λ b. r b a) k) ⊎ ((k : ℕ) → k < a → r k a ≡ false)

picked : (r : ℕ → ℕ → Bool) (a : ℕ) → Found r a → ℕ
unfolding Found
picked r a (inl found) = found.0
picked r a (inr none) = a

pub leader : (ℕ → ℕ → Bool) → ℕ → ℕ
unfolding Found
leader r a = picked r a (search_below (λ b. r b a) a)

picked-first : (r : ℕ → ℕ → Bool) (n a : ℕ) → IsEquivalence r n → a < n → (t : Found r a) → IsFirstOf r a (picked r a t)
unfolding Found picked
picked-first r n a e la (inl found) = grind (arith, is_first-from, cases_Bool, both_ways)
picked-first r n a e la (inr none) = record { first = is_first-from r a none; related = e.reflexive a la; low = omega arith }

pub leader-first : (r : ℕ → ℕ → Bool) (n a : ℕ) → IsEquivalence r n → a < n → IsFirstOf r a (leader r a)
unfolding leader Found
leader-first r n a e la = picked-first r n a e la (search_below (λ b. r b a) a)

-- two firsts of one class are one
pub firsts_same : (r : ℕ → ℕ → Bool) (n a b : ℕ) → IsEquivalence r n → a < n → b < n → is_first r a ≡ true → is_first r b ≡ true → r a b ≡ true → a ≡ b
firsts_same r n a b e la lb fa fb met =
    elim (cases_eq a b) [
      | inl same ↦ same
      | inr ne ↦ elim (cases_lt a b) [
        | inl l ↦ absurd (both_ways (r a b) (first-before r b a fb l) met)
        | inr l ↦ absurd (both_ways (r b a) (first-before r a b fa (omega arith)) (e.symmetric a b la lb met))
      ]
    ]

-- members of a class with one leader are related
pub leaders_same : (r : ℕ → ℕ → Bool) (n a b : ℕ) → IsEquivalence r n → a < n → b < n → leader r a ≡ leader r b → r a b ≡ true
leaders_same r n a b e la lb same =
    let u : IsFirstOf r a (leader r a) = leader-first r n a e la in
    grind (arith, leader, leader-first)

-- as many classes on either side
pub class_count-carries : (h : ℕ → ℕ) (r s : ℕ → ℕ → Bool) (n m : ℕ) → IsEquivalence r n → IsEquivalence s m → Carries h r s n m
    → class_count r n ≡ class_count s m
class_count-carries h r s n m e w c =
    let up : class_count r n ≤ class_count s m =
    count_below-into (is_first r) (is_first s) n m (λ a. leader s (h a))
    (λ a la _. omega (arith, (leader-first s m (h a) w (c.within a la)).low, c.within a la))
    (λ a la _. (leader-first s m (h a) w (c.within a la)).first)
    (λ a b la lb fa fb same. firsts_same r n a b e la lb fa fb
    (sym (c.same a b la lb) ∙ leaders_same s m (h a) (h b) w (c.within a la) (c.within b lb) same)) in
    let down : class_count s m ≤ class_count r n =
    count_below-into (is_first s) (is_first r) m n (λ y. leader r (c.from y))
    (λ y ly _. omega (arith, (leader-first r n (c.from y) e (c.from_within y ly)).low, c.from_within y ly))
    (λ y ly _. (leader-first r n (c.from y) e (c.from_within y ly)).first)
    (λ y z ly lz fy fz same.
    let ry = c.from_within y ly in
    let rz = c.from_within z lz in
    let met : s (h (c.from y)) (h (c.from z)) ≡ true = c.same (c.from y) (c.from z) ry rz ∙ leaders_same r n (c.from y) (c.from z) e ry rz same in
    firsts_same s m y z w ly lz fy fz
    (w.transitive y (h (c.from y)) z ly (c.within _ ry) lz (w.symmetric _ _ (c.within _ ry) ly (c.meets y ly))
    (w.transitive (h (c.from y)) (h (c.from z)) z (c.within _ ry) (c.within _ rz) lz met (c.meets z lz)))) in
    omega (arith, up, down)
