-- Walks along a permutation: they return, they go both ways, and what an exchange of two images does to them.
use Rattle.std.proofs.Common.{◌≡◌, ◌≢◌, ℕ, zero, suc, ◌+◌, ◌-◌, ◌<◌, ◌≤◌, ◌==◌, Bool, true, false, cond}
use Rattle.std.proofs.Common.{◌||◌, ◌⊎◌, inl, inr, refl, sym, ◌∙◌, ap, ap₂, arith, below_none, ltb}
use Rattle.std.proofs.lemmas.Bool.{cases_Bool, cases_eq, or_left, or_right, or_cases, or_from, eqb-true, eqb-false, eq-eqb, ltb-true, ltb-false}
use Rattle.topo_core.specs.Cycles.{IsPermutation, after, count_below, SameCycle, some_below, is_met}

-- the first number that passes
pub record FirstAt (p : ℕ → Bool) (k : ℕ) : Type 0 where
  pub here : p k ≡ true
  pub before : (j : ℕ) → j < k → p j ≡ false

-- it is found, or there is none
pub search_below : (p : ℕ → Bool) (n : ℕ) → ((k : ℕ) × (k < n) × FirstAt p k) ⊎ ((k : ℕ) → k < n → p k ≡ false)
search_below p zero = inr (below_none _)
search_below p (suc n) =
    elim (search_below p n) [
      | inl (k, l, first) ↦ inl (k, omega arith, first)
      | inr none ↦ elim (cases_Bool (p n)) [
        | inl pass ↦ inl (n, omega arith, record { here = pass; before = none })
        | inr fail ↦ inr (λ k l. elim (cases_eq k n) [ inl e ↦ ap p e ∙ fail | inr ne ↦ none k (omega arith) ])
      ]
    ]

-- some number passes
pub some_below-true : (p : ℕ → Bool) (n k : ℕ) → k < n → p k ≡ true → some_below p n ≡ true
some_below-true p zero k l e = absurd (omega arith)
some_below-true p (suc n) k l e =
    elim (cases_eq k n) [
      | inl same ↦ or_left (p n) (some_below p n) (ap p (sym same) ∙ e)
      | inr ne ↦ or_right (p n) (some_below p n) (some_below-true p n k (omega arith) e)
    ]

-- none does
pub some_below-false : (p : ℕ → Bool) (n : ℕ) → ((k : ℕ) → k < n → p k ≡ false) → some_below p n ≡ false
some_below-false p zero h = refl
some_below-false p (suc n) h =
    or_from (p n) (some_below p n) (h n (omega arith)) (some_below-false p n (λ k l. h k (omega arith)))

-- the number that passes
pub from_some_below : (p : ℕ → Bool) (n : ℕ) → some_below p n ≡ true → (k : ℕ) × (k < n) × (p k ≡ true)
from_some_below p zero e = cc
from_some_below p (suc n) e =
    elim (or_cases (p n) (some_below p n) e) [
      | inl here ↦ (n, omega arith, here)
      | inr there ↦ let (k, l, pass) = from_some_below p n there in (k, omega arith, pass)
    ]

-- equal tests count as many
pub count_below-same : (p q : ℕ → Bool) (n : ℕ) → ((a : ℕ) → a < n → p a ≡ q a) → count_below p n ≡ count_below q n
count_below-same p q zero h = refl
count_below-same p q (suc n) h = ap₂ (λ m b. m + cond b 1 0) (count_below-same p q n (λ a l. h a (omega arith))) (h n (omega arith))

-- equal tests find alike
pub some_below-same : (p q : ℕ → Bool) (n : ℕ) → ((a : ℕ) → a < n → p a ≡ q a) → some_below p n ≡ some_below q n
some_below-same p q zero h = refl
some_below-same p q (suc n) h = ap₂ (λ a b. a || b) (h n (omega arith)) (some_below-same p q n (λ a l. h a (omega arith)))

-- steps after steps
pub after-add : (f : ℕ → ℕ) (k m a : ℕ) → after f (k + m) a ≡ after f k (after f m a)
after-add f zero m a = let e : 0 + m ≡ m = omega arith in ap (λ n. after f n a) e
after-add f (suc k) m a =
    let e : suc k + m ≡ suc (k + m) = omega arith in ap (λ n. after f n a) e ∙ ap f (after-add f k m a)

-- steps stay below n
pub after-within : (f : ℕ → ℕ) (n : ℕ) → IsPermutation f n → (k a : ℕ) → a < n → after f k a < n
after-within f n h zero a l = l
after-within f n h (suc k) a l = h.within _ (after-within f n h k a l)

-- steps lead no two to the same
pub after-apart : (f : ℕ → ℕ) (n : ℕ) → IsPermutation f n → (k a b : ℕ) → a < n → b < n → after f k a ≡ after f k b → a ≡ b
after-apart f n h zero a b la lb e = e
after-apart f n h (suc k) a b la lb e =
    after-apart f n h k a b la lb (h.apart _ _ (after-within f n h k a la) (after-within f n h k b lb) e)

-- of n + 1 numbers below n two are the same
pub record TwoAlike (g : ℕ → ℕ) (n : ℕ) : Type 0 where
  pub one : ℕ
  pub other : ℕ
  pub order : one < other
  pub within : other ≤ n
  pub alike : g one ≡ g other

-- closes the gap at v
abbrev closed : ℕ → ℕ → ℕ
closed v x = cond (ltb x v) x (x - 1)

closed-below : (v x n : ℕ) → x < suc n → v < suc n → x ≢ v → closed v x < n
closed-below v x n l lv ne = grind (arith, cases_Bool, ltb-true, ltb-false)

closed-apart : (v x y : ℕ) → x ≢ v → y ≢ v → closed v x ≡ closed v y → x ≡ y
closed-apart v x y nx ny e = grind (arith, cases_Bool, ltb-true, ltb-false)

-- n + 1 numbers below n are not all different
pub two_alike : (n : ℕ) (g : ℕ → ℕ) → ((i : ℕ) → i ≤ n → g i < n) → TwoAlike g n
two_alike zero g h = absurd (omega (arith, h 0 (omega arith)))
two_alike (suc n) g h =
    elim (search_below (λ i. g i == g (suc n)) (suc n)) [
      | inl (i, l, first) ↦ record { one = i; other = suc n; order = l; within = omega arith; alike = eqb-true _ _ first.here }
      | inr none ↦
          let ne : (i : ℕ) → i ≤ n → g i ≢ g (suc n) = λ i l. eqb-false _ _ (none i (omega arith)) in
          let rest : TwoAlike (λ i. closed (g (suc n)) (g i)) n =
          two_alike n (λ i. closed (g (suc n)) (g i)) (λ i l. closed-below _ _ n (h i (omega arith)) (h (suc n) (omega arith)) (ne i l)) in
          grind (arith, closed-apart)
    ]

-- d steps lead from a back to a
pub record IsPeriod (f : ℕ → ℕ) (a d : ℕ) : Type 0 where
  pub some : 0 < d
  pub home : after f d a ≡ a

-- each number comes back within n steps
pub period : (f : ℕ → ℕ) (n : ℕ) → IsPermutation f n → (a : ℕ) → a < n → (d : ℕ) × (d ≤ n) × IsPeriod f a d
period f n h a l =
    let t : TwoAlike (λ k. after f k a) n = two_alike n (λ k. after f k a) (λ k _. after-within f n h k a l) in
    let d : ℕ = t.other - t.one in
    let e : t.one + d ≡ t.other = omega (arith, t.order) in
    grind (arith, after-add, after-apart, after-within)

-- each step of a walk is one of the first d
pub wraps : (f : ℕ → ℕ) (a d : ℕ) → IsPeriod f a d → (k : ℕ) → (m : ℕ) × (m < d) × (after f k a ≡ after f m a)
wraps f a d h zero = (0, h.some, refl)
wraps f a d h (suc k) =
    let (m, l, e) = wraps f a d h k in
    elim (cases_eq (suc m) d) [
      | inl whole ↦ (0, h.some, ap f e ∙ ap (λ n. after f n a) whole ∙ h.home)
      | inr ne ↦ (suc m, omega arith, ap f e)
    ]

-- a number lies on its own cycle
pub SameCycle-refl : (f : ℕ → ℕ) (a : ℕ) → SameCycle f a a
SameCycle-refl f a = record { steps = 0; leads = refl }

-- on one cycle with the same number
pub SameCycle-trans : (f : ℕ → ℕ) (a b c : ℕ) → SameCycle f a b → SameCycle f b c → SameCycle f a c
SameCycle-trans f a b c g h = record {
  steps = h.steps + g.steps;
  leads = after-add f h.steps g.steps a ∙ ap (λ x. after f h.steps x) g.leads ∙ h.leads;
}

-- one step more
pub SameCycle-step : (f : ℕ → ℕ) (a b : ℕ) → SameCycle f a b → SameCycle f a (f b)
SameCycle-step f a b g = record { steps = suc g.steps; leads = ap f g.leads }

-- cycles lead both ways
pub SameCycle-sym : (f : ℕ → ℕ) (n : ℕ) → IsPermutation f n → (a b : ℕ) → a < n → SameCycle f a b → SameCycle f b a
SameCycle-sym f n h a b l g =
    let (d, ld, p) = period f n h a l in
    let (m, lm, e) = wraps f a d p g.steps in
    let whole : (d - m) + m ≡ d = omega arith in
    grind (arith, after-add)

-- what is met lies on the cycle
pub is_met-SameCycle : (f : ℕ → ℕ) (n a b : ℕ) → is_met f n a b ≡ true → SameCycle f a b
is_met-SameCycle f n a b e = grind (arith, from_some_below, eqb-true)

-- and what lies on the cycle is met within n steps
pub SameCycle-is_met : (f : ℕ → ℕ) (n : ℕ) → IsPermutation f n → (a b : ℕ) → a < n → SameCycle f a b → is_met f n a b ≡ true
SameCycle-is_met f n h a b l g =
    let (d, ld, p) = period f n h a l in
    let (m, lm, e) = wraps f a d p g.steps in
    some_below-true (λ k. after f k a == b) n m (omega arith) (eq-eqb _ _ (sym e ∙ g.leads))
