-- What holds all the way round a cycle.
use Rattle.std.proofs.Common.{◌≡◌, ℕ, suc, ◌+◌, ◌<◌, sym, ◌∙◌, ap, arith, subst}
use Rattle.topo_core.specs.Cycles.{IsPermutation, after, SameCycle}
use Rattle.topo_core.proofs.Interface.{period, wraps}

-- what holds along a walk that has returned holds of the whole cycle
pub round_home : (f : ℕ → ℕ) (P : ℕ → Type 0) (a k : ℕ) → 0 < k → after f k a ≡ a → ((j : ℕ) → j < k → P (after f j a)) → (x : ℕ) → SameCycle f a x → P x
round_home f P a k some home along x same =
    let (m, l, e) = wraps f a k (record { some = some; home = home }) same.steps in
    subst P (sym e ∙ same.leads) (along m l)

-- and so does what holds along as many steps as there are numbers
pub round_all : (f : ℕ → ℕ) (P : ℕ → Type 0) (a n : ℕ) → IsPermutation f n → a < n → ((j : ℕ) → j < n → P (after f j a)) → (x : ℕ) → SameCycle f a x → P x
round_all f P a n h l along x same =
    let (d, ld, p) = period f n h a l in
    round_home f P a d p.some p.home (λ j lj. along j (omega arith)) x same

-- one step more
pub after-one : (f : ℕ → ℕ) (k a : ℕ) → after f (k + 1) a ≡ f (after f k a)
after-one f k a = let e : k + 1 ≡ suc k = omega arith in ap (λ n. after f n a) e
