-- A permutation whose cycle takes in two numbers more has as many cycles.
use Rattle.std.proofs.Common.{◌≡◌, ◌<◌, ◌⊎◌, ap, arith, Bool, cond, false, inl, inr, not, refl, subst, suc, sym, true, zero, ℕ, ◌==◌, ◌∙◌}
use Rattle.std.proofs.lemmas.Bool.{eq-eqb}
use Rattle.topo_core.specs.Cycles.{after, count_below, cycle_count, is_first, is_met, IsPermutation, SameCycle}
use Rattle.topo_core.proofs.systems.Orbits.{SameCycle-is_met, SameCycle-refl, SameCycle-step, SameCycle-trans}
use Rattle.topo_core.proofs.systems.Orbits.{count_below-same, is_met-SameCycle, some_below-same, some_below-true}

-- ---- Counts

-- tests that follow from each other are equal
pub same_tests : (a b : Bool) → (a ≡ true → b ≡ true) → (b ≡ true → a ≡ true) → a ≡ b
same_tests true b to from = sym (to refl)
same_tests false true to from = from refl
same_tests false false to from = refl

-- ---- The longer cycle

-- g makes the steps of f, but for one that leads over n and n + 1
pub record IsLonger (f g : ℕ → ℕ) (n : ℕ) : Type 0 where
  pub steps : (a : ℕ) → a < n → (g a ≡ f a) ⊎ ((g a ≡ n) × (g (suc n) ≡ f a))
  pub on : g n ≡ suc n
  pub source : ℕ
  pub source_in : source < n
  pub leads_in : g source ≡ n

module _ (f g : ℕ → ℕ) (n : ℕ) (before : IsPermutation f n) (now : IsPermutation g (suc (suc n))) (longer : IsLonger f g n) where
  one_step : (a : ℕ) → SameCycle g a (g a)
  one_step a = record { steps = 1; leads = refl }

  -- a step of f is one or three of g
  f_step : (a : ℕ) → a < n → SameCycle g a (f a)
  f_step a l = elim (longer.steps a l) [
    | inl same ↦ subst (SameCycle g a) same (one_step a)
    | inr over ↦
        let first : SameCycle g a n = subst (SameCycle g a) over.0 (one_step a) in
        let second : SameCycle g a (suc n) = subst (SameCycle g a) longer.on (SameCycle-step g a n first) in
        subst (SameCycle g a) over.1 (SameCycle-step g a (suc n) second)
  ]

  f_steps : (k a : ℕ) → a < n → SameCycle g a (after f k a) × (after f k a < n)
  f_steps zero a l = (SameCycle-refl g a, l)
  f_steps (suc k) a l =
      let rest = f_steps k a l in (
        SameCycle-trans g a (after f k a) (f (after f k a)) rest.0 (f_step (after f k a) rest.1),
        before.within (after f k a) rest.1,
      )

  -- where steps of g lead: to a number that f leads to, or onto the way over n and n + 1 to one
  abbrev Reached : ℕ → ℕ → Type 0
  Reached a r = ((r < n) × SameCycle f a r) ⊎ (((r ≡ n) ⊎ (r ≡ suc n)) × (g (suc n) < n) × SameCycle f a (g (suc n)))

  g_step : (a r : ℕ) → Reached a r → Reached a (g r)
  g_step a r (inl (l, same)) = elim (longer.steps r l) [
    | inl e ↦ inl (subst (λ x. x < n) (sym e) (before.within r l), subst (SameCycle f a) (sym e) (SameCycle-step f a r same))
    | inr over ↦ inr (inl over.0, subst (λ x. x < n) (sym over.1) (before.within r l), subst (SameCycle f a) (sym over.1) (SameCycle-step f a r same))
  ]
  g_step a r (inr (inl at_n, less, same)) = inr (inr (ap g at_n ∙ longer.on), less, same)
  g_step a r (inr (inr at_next, less, same)) = inl (subst (λ x. g x < n) (sym at_next) less, subst (λ x. SameCycle f a (g x)) (sym at_next) same)

  g_steps : (k a : ℕ) → a < n → Reached a (after g k a)
  g_steps zero a l = inl (l, SameCycle-refl f a)
  g_steps (suc k) a l = g_step a (after g k a) (g_steps k a l)

  not_above : (r : ℕ) → r < n → (r ≡ n) ⊎ (r ≡ suc n) → ⊥
  not_above r l (inl e) = omega arith
  not_above r l (inr e) = omega arith

  -- below n the cycles are the same
  to_f : (a b : ℕ) → a < n → b < n → SameCycle g a b → SameCycle f a b
  to_f a b la lb same = grind (arith, g_steps, not_above)

  to_g : (a b : ℕ) → a < n → SameCycle f a b → SameCycle g a b
  to_g a b la same = subst (SameCycle g a) same.leads (f_steps same.steps a la).0

  same_met : (a b : ℕ) → a < n → b < n → is_met g (suc (suc n)) a b ≡ is_met f n a b
  same_met a b la lb = same_tests (is_met g (suc (suc n)) a b) (is_met f n a b)
      (λ h. SameCycle-is_met f n before a b la (to_f a b la lb (is_met-SameCycle g (suc (suc n)) a b h)))
      (λ h. SameCycle-is_met g (suc (suc n)) now a b (omega arith) (to_g a b la (is_met-SameCycle f n a b h)))

  -- a number that a smaller one leads to in one step is not the first of its cycle
  not_first : (a b : ℕ) → b < a → g b ≡ a → is_first (λ a b. is_met g (suc (suc n)) a b) a ≡ false
  not_first a b l e = ap not
      (some_below-true (λ b. is_met g (suc (suc n)) b a) a b l (some_below-true (λ k. after g k b == a) (suc (suc n)) 1 (omega arith) (eq-eqb (g b) a e)))

  -- as many cycles
  pub as_many_cycles : cycle_count g (suc (suc n)) ≡ cycle_count f n
  as_many_cycles =
      let first_g = is_first (λ a b. is_met g (suc (suc n)) a b) in
      let low : count_below first_g n ≡ cycle_count f n = count_below-same first_g (is_first (λ a b. is_met f n a b)) n (λ a la.
      ap not (some_below-same (λ b. is_met g (suc (suc n)) b a) (λ b. is_met f n b a) a (λ b lb. same_met b a (omega arith) la))) in
      let at_n : cond {A = ℕ} (first_g n) 1 0 ≡ 0 = ap (λ (t : Bool). cond {A = ℕ} t 1 0) (not_first n longer.source longer.source_in longer.leads_in) in
      let at_next : cond {A = ℕ} (first_g (suc n)) 1 0 ≡ 0 = ap (λ (t : Bool). cond {A = ℕ} t 1 0) (not_first (suc n) n (omega arith) longer.on) in
      grind arith
