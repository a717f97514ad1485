-- How many heights are reached.
use Rattle.std.proofs.Common.{◌≡◌, ℕ, ◌≤◌, ◌==◌, [], ◌∷◌, Bool, cond, List, length, inl, inr, ap, arith}
use Rattle.std.proofs.lemmas.Bool.{cases_eq, eq-eqb, ne_eqb}
use Rattle.std.proofs.lemmas.List.Sums.{sum_by-cons}
use Rattle.topo_core.specs.Routes.{unreached}
use Rattle.topo_route.specs.Settling.{reached}

abbrev pub counts : ℕ → ℕ
counts h = cond {A = ℕ} (h == unreached) 0 1

counts_one : (h : ℕ) → counts h ≤ 1
counts_one h = elim (cases_eq h unreached) [
  | inl e ↦ let none : counts h ≡ 0 = ap (λ (b : Bool). cond {A = ℕ} b 0 1) (eq-eqb h unreached e) in omega arith
  | inr ne ↦ let one : counts h ≡ 1 = ap (λ (b : Bool). cond {A = ℕ} b 0 1) (ne_eqb h unreached ne) in omega arith
]

-- no more are reached than there are
pub reached_within : (heights : List ℕ) → reached heights ≤ length heights
reached_within [] = omega arith
reached_within (h ∷ heights) = let first = sum_by-cons counts h heights in let one = counts_one h in let rest = reached_within heights in omega arith
