-- Segments taken out of a turn one after another: a dart that led past one of them leads on to what followed it.
use Rattle.std.proofs.Common.{◌≡◌, ◌≢◌, ℕ, zero, suc, ◌+◌, ◌-◌, ◌<◌, ◌≤◌, ◌==◌, true, not, ◌||◌, ◌⊎◌, inl, inr, refl, sym, ◌∙◌, ap, subst, arith}
use Rattle.std.proofs.lemmas.Bool.{cases_eq, eq-eqb, false≢true, or_left, or_right}
use Rattle.topo_core.specs.Rotations.{twin}
use Rattle.topo_core.specs.Edits.{IsUnchord}
use Rattle.topo_core.proofs.Interface.{left_true, right_true}
use Rattle.topo_perm.proofs.Interface.{left_after, twin-other}

-- a dart that is left is on none of the segments
pub left_away : (h : ℕ → ℕ) (i a : ℕ) → left_after h i a ≡ true → (j : ℕ) → j < i → (a ≢ h j) × (a ≢ twin (h j))
left_away h zero a w j lj = absurd (omega arith)
left_away h (suc i) a w j lj =
    let here : not (a == h i || a == twin (h i)) ≡ true = left_true (not (a == h i || a == twin (h i))) (left_after h i a) w in
    let later : left_after h i a ≡ true = right_true (not (a == h i || a == twin (h i))) (left_after h i a) w in
    elim (cases_eq j i) [
      | inl same ↦ subst (λ (k : ℕ). (a ≢ h k) × (a ≢ twin (h k))) (sym same) grind (arith, false≢true, or_left, eq-eqb, or_right)
      | inr ne ↦ left_away h i a later j (omega arith)
    ]

module _ (t : ℕ → ℕ → ℕ) (n : ℕ) (h : ℕ → ℕ) (count : ℕ) (steps : (i : ℕ) → i < count → IsUnchord (t i) (t (i + 1)) n (h i)) where
  -- a is not on segment j
  abbrev pub IsOff : ℕ → ℕ → Type 0
  IsOff a j = (a ≢ h j) × (a ≢ twin (h j))

  one_step : (i a : ℕ) → i < count → a < n → IsOff a i → IsOff (t i a) i → t (i + 1) a ≡ t i a
  one_step i a li la off next = grind arith

  -- from i on to k segments taken out: what is on none of them turns as before where it turns to none of them
  steady : (d i k a : ℕ) → i + d ≡ k → k ≤ count → a < n → ((j : ℕ) → i ≤ j → j < k → IsOff a j × IsOff (t i a) j) → t k a ≡ t i a
  steady zero i k a e lk la off = (let same : k ≡ i = omega arith in ap (λ (v : ℕ). t v a) same)
  steady (suc d) i k a e lk la off =
      let before : t (i + d) a ≡ t i a = steady d i (i + d) a refl (omega arith) la (λ j ij lj. off j ij (omega arith)) in
      grind (arith, one_step)

  pub straight : (a : ℕ) → a < n → ((j : ℕ) → j < count → IsOff a j × IsOff (t 0 a) j) → t count a ≡ t 0 a
  straight a la off = steady count 0 count a (omega arith) (omega arith) la (λ j ij lj. off j lj)

  -- a turns to b, which is on segment k and turns to c
  module _ (k a b c : ℕ) (lk : k < count) (la : a < n) (lb : b < n) (to_b : t 0 a ≡ b) (to_c : t 0 b ≡ c)
      (off_a : (j : ℕ) → j < count → IsOff a j) (off_b : (j : ℕ) → j < k → IsOff b j) (off_c : (j : ℕ) → j < count → IsOff c j) where
    a_before : t k a ≡ b
    a_before = steady k 0 k a (omega arith) (omega arith) la (λ j ij lj. (off_a j (omega arith), subst (λ (v : ℕ). IsOff v j) (sym to_b) (off_b j lj))) ∙ to_b

    b_before : t k b ≡ c
    b_before = steady k 0 k b (omega arith) (omega arith) lb (λ j ij lj. (off_b j lj, subst (λ (v : ℕ). IsOff v j) (sym to_c) (off_c j (omega arith)))) ∙ to_c

    led_over : (b ≡ h k) ⊎ (b ≡ twin (h k)) → t (k + 1) a ≡ c
    led_over (inl e) = grind (arith, a_before, b_before)
    led_over (inr e) = grind (arith, twin-other, a_before, b_before)

    pub over : (b ≡ h k) ⊎ (b ≡ twin (h k)) → t count a ≡ c
    over on =
        let (d, size) : (d : ℕ) × (k + 1 + d ≡ count) = rest_of count lk in
        let now : t (k + 1) a ≡ c = led_over on in
        steady d (k + 1) count a size (omega arith) la (λ j kj lj. (off_a j lj, subst (λ (v : ℕ). IsOff v j) (sym now) (off_c j lj))) ∙ now where
          rest_of : (w : ℕ) → k < w → (d : ℕ) × (k + 1 + d ≡ w)
          rest_of w l = (w - (k + 1), omega arith)
