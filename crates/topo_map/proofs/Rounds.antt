-- Walks round a point.
use Rattle.std.proofs.Common.{◌≡◌, ◌≢◌, ℕ, suc, ◌+◌, ◌<◌, inl, inr, sym, ◌∙◌, ap, arith}
use Rattle.std.proofs.lemmas.Bool.{cases_eq}
use Rattle.topo_core.specs.Cycles.{IsPermutation, after}
use Rattle.topo_perm.proofs.Interface.{must_return}
use Rattle.topo_map.specs.Rotation.{Rotation, IsDegree, turn}

-- as many steps as there are numbers, and not back before the last
pub whole_degree : (r : Rotation) (n k a d : ℕ) → IsPermutation (turn r) n → a < n → k ≡ n → d ≡ n → ((j : ℕ) → 0 < j → j < k → after (turn r) j a ≢ a)
    → IsDegree r a d
whole_degree r n k a d h la e ed out =
    let f : ℕ → ℕ = turn r in
    let outs : (j : ℕ) → 0 < j → j < d → after f j a ≢ a = λ j p q. out j p (let w : j < k = omega arith in w) in
    elim (cases_eq (after f d a) a) [
      | inl back ↦ record { some = (let w : 0 < d = omega arith in w); back = back; least = outs }
      | inr ne ↦ absurd (must_return f n a h la (λ j l. elim (cases_eq (suc j) d) [
        | inl same ↦ λ w. ne (ap (λ (m : ℕ). after f m a) (sym same) ∙ w)
        | inr other ↦ outs (suc j) (let w : 0 < suc j = omega arith in w) (let w : suc j < d = omega arith in w)
      ]))
    ]

pub out_more : (f : ℕ → ℕ) (k a at : ℕ) → at ≡ after f k a → at ≢ a → ((j : ℕ) → 0 < j → j < k → after f j a ≢ a) → (j : ℕ) → 0 < j → j < k + 1
    → after f j a ≢ a
out_more f k a at e ne out j p l = grind (arith, cases_eq)
