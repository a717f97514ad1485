-- What a walk round a cycle did not meet until it came home, or in as many steps as there are numbers, is not on the cycle.
use Rattle.std.proofs.Common.{◌≡◌, ◌≢◌, ℕ, suc, ◌+◌, ◌<◌, sym, ◌∙◌, arith}
use Rattle.topo_core.specs.Cycles.{IsPermutation, SameCycle, after}
use Rattle.topo_core.proofs.Interface.{IsPeriod, period, wraps}

unmet_wrapped : (f : ℕ → ℕ) (a b d : ℕ) → IsPeriod f a d → ((j : ℕ) → j < d → after f j a ≢ b) → SameCycle f a b → ⊥
unmet_wrapped f a b d p unmet same =
    let (m, l, e) = wraps f a d p same.steps in
    unmet m l (sym e ∙ same.leads)

-- a walk that has come home without b has not met it anywhere
pub unmet_home : (f : ℕ → ℕ) (a b k : ℕ) → f (after f k a) ≡ a → ((j : ℕ) → j < k + 1 → after f j a ≢ b) → SameCycle f a b → ⊥
unmet_home f a b k home unmet same = unmet_wrapped f a b (suc k) (record { some = omega arith; home = home }) (λ j l. unmet j (omega arith)) same

pub unmet_all : (f : ℕ → ℕ) (a b n : ℕ) → IsPermutation f n → a < n → ((j : ℕ) → j < n → after f j a ≢ b) → SameCycle f a b → ⊥
unmet_all f a b n h l unmet same =
    let (d, ld, p) = period f n h a l in
    unmet_wrapped f a b d p (λ j lj. unmet j (omega arith)) same
