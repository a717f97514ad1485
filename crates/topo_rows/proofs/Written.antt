-- Numbers written one after another: what stands at a place that is written once.
use Rattle.std.proofs.Common.{◌≡◌, ◌≢◌, ◌<◌, ap, arith, eqb, false, inl, inr, length, List, refl, sym, true, ℕ, [], ◌++◌, ◌∙◌, ◌∷◌, set}
use Rattle.std.specs.Prelude.{count_by, flat_map, slice_index, sum_by, ◌==◌}
use Rattle.std.proofs.lemmas.Bool.Decides.{nat_tests}
use Rattle.std.proofs.lemmas.Bool.{cases_Bool, eqb-true}
use Rattle.std.proofs.lemmas.List.{length-set, get_or-set_same, get_or-set_other}
use Rattle.std.proofs.lemmas.List.Sums.{sum_by-cons}
use Rattle.topo_core.specs.Items.{IsIn}
use Rattle.topo_core.proofs.Interface.{one, sum_joined}
use Rattle.topo_rows.specs.Flats.{written}

-- writing keeps the length
pub length_written : (xs : List ℕ) (ws : List (ℕ × ℕ)) → length (written xs ws) ≡ length xs
length_written xs [] = refl
length_written xs (w ∷ ws) = length_written (set xs w.0 w.1) ws ∙ length-set xs w.0 w.1

-- what is written after something else
pub written_append : (xs : List ℕ) (us vs : List (ℕ × ℕ)) → written xs (us ++ vs) ≡ written (written xs us) vs
written_append xs [] vs = refl
written_append xs (u ∷ us) vs = written_append (set xs u.0 u.1) us vs

-- how often a place is written
abbrev pub times : ℕ → List (ℕ × ℕ) → ℕ
times k ws = count_by (λ w. w.0 == k) ws

-- a place that is not written keeps its number
pub untouched : (k : ℕ) (xs : List ℕ) (ws : List (ℕ × ℕ)) → times k ws ≡ 0 → slice_index (written xs ws) k ≡ slice_index xs k
untouched k xs [] none = refl
untouched k xs (w ∷ ws) none =
    let step = sum_by-cons (λ (w : ℕ × ℕ). one (w.0 == k)) w ws in
    elim (cases_Bool (w.0 == k)) [
      | inl e ↦ absurd (let here : one (w.0 == k) ≡ 1 = ap one e in omega arith)
      | inr e ↦
          let other : k ≢ w.0 = grind (arith, nat_tests) in
          untouched k (set xs w.0 w.1) ws (omega arith) ∙ get_or-set_other xs w.0 k w.1 0 other
    ]

not_at : (k v : ℕ) (ws : List (ℕ × ℕ)) → IsIn (k, v) ws → times k ws ≡ 0 → ⊥
not_at k v [] h none = absurd h
not_at k v (w ∷ ws) (inl e) none =
    let step = sum_by-cons (λ (w : ℕ × ℕ). one (w.0 == k)) w ws in
    grind (arith, nat_tests, one)
not_at k v (w ∷ ws) (inr h) none =
    let step = sum_by-cons (λ (w : ℕ × ℕ). one (w.0 == k)) w ws in not_at k v ws h (omega arith)

-- a place that is written once has the number that is written there
pub written_once : (k v : ℕ) (xs : List ℕ) (ws : List (ℕ × ℕ)) → k < length xs → times k ws ≡ 1 → IsIn (k, v) ws → slice_index (written xs ws) k ≡ v
written_once k v xs [] inside once h = absurd h
written_once k v xs (w ∷ ws) inside once h =
    let step = sum_by-cons (λ (w : ℕ × ℕ). one (w.0 == k)) w ws in
    elim (cases_Bool (w.0 == k)) [
      | inl e ↦
          let here : one (w.0 == k) ≡ 1 = ap one e in
          let same : w.0 ≡ k = eqb-true w.0 k e in
          let rest : times k ws ≡ 0 = omega arith in
          untouched k (set xs w.0 w.1) ws rest ∙ ap (λ i. slice_index (set xs i w.1) k) same ∙ get_or-set_same xs k w.1 0 inside ∙ value h rest
      | inr e ↦
          let none : one (w.0 == k) ≡ 0 = ap one e in
          written_once k v (set xs w.0 w.1) ws (omega (arith, length-set xs w.0 w.1)) (omega arith) (later h e)
    ] where
      value : IsIn (k, v) (w ∷ ws) → times k ws ≡ 0 → w.1 ≡ v
      value (inl e) rest = sym (ap (λ (w : ℕ × ℕ). w.1) e)
      value (inr there) rest = absurd (not_at k v ws there rest)

      later : IsIn (k, v) (w ∷ ws) → eqb w.0 k ≡ false → IsIn (k, v) ws
      later (inl e) apart = let same : k ≡ w.0 = ap (λ (w : ℕ × ℕ). w.0) e in absurd (let here : eqb w.0 k ≡ true = grind (arith, nat_tests) in cc)
      later (inr there) apart = there

-- how often a place is written by many
pub times_joined : {X : Type 0} (k : ℕ) (f : X → List (ℕ × ℕ)) (xs : List X) → times k (flat_map f xs) ≡ sum_by (λ x. times k (f x)) xs
times_joined k f xs = sum_joined (λ (w : ℕ × ℕ). one (w.0 == k)) f xs
