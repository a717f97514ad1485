-- Turning past what is taken out: the next number that is left.
use Rattle.std.proofs.Common.{◌≡◌, ◌≢◌, ◌+◌, ◌<◌, ◌≤◌, ◌-◌, ◌||◌, ◌==◌, ap, arith, Bool, false, inl, inr, subst, suc, sym, true, zero, ℕ, ◌∙◌}
use Rattle.std.specs.Prelude.{◌⊎◌}
use Rattle.std.proofs.lemmas.Bool.{cases_eq, cases_lt, false≢true, ne_eqb, or_left, or_right}
use Rattle.topo_core.specs.Cycles.{after, IsBypass, IsPermutation}
use Rattle.topo_core.specs.Edits.{IsUnchord}
use Rattle.topo_core.specs.Rotations.{twin}
use Rattle.topo_core.proofs.Interface.{after-add, after-within, eqb_self, or_left_false, or_right_false, period}
use Rattle.topo_perm.proofs.Interface.{bypassed-permutation, twin-other}

-- b is the first after a that is not out
pub record Skips (f : ℕ → ℕ) (out : ℕ → Bool) (a b : ℕ) : Type 0 where
  pub passed : ℕ
  pub lands : b ≡ after f (suc passed) a
  pub stays : out b ≡ false
  pub over : (j : ℕ) → 0 < j → j ≤ passed → out (after f j a) ≡ true

-- one more is out
abbrev pub or_at : (ℕ → Bool) → ℕ → ℕ → Bool
or_at out y b = out b || b == y

module _ (f g h : ℕ → ℕ) (n : ℕ) (out : ℕ → Bool) (y : ℕ) (inside : y < n) (perm : IsPermutation g n) (left : out y ≡ false) (taken : IsBypass g h n y)
    (skips : (a : ℕ) → a < n → out a ≡ false → Skips f out a (g a)) where
  stays_left : (b : ℕ) → out b ≡ false → b ≢ y → or_at out y b ≡ false
  stays_left b e ne = ap (λ (t : Bool). t || b == y) e ∙ ne_eqb b y ne

  -- what did not lead there is as before
  elsewhere : (a : ℕ) → a < n → out a ≡ false → a ≢ y → g a ≢ y → Skips f (or_at out y) a (h a)
  elsewhere a l e ne away =
      let s = skips a l e in
      grind (arith, or_at, stays_left, or_left)

  -- what led there leads on
  onward : (a : ℕ) → a < n → out a ≡ false → a ≢ y → g a ≡ y → Skips f (or_at out y) a (h a)
  onward a l e ne leads =
      let s = skips a l e in
      let t = skips y inside left in
      let same : h a ≡ g y = taken.onward a l ne leads in
      let there : y ≡ after f (suc s.passed) a = sym leads ∙ s.lands in
      let apart : g y ≢ y = λ k. ne (sym (perm.apart y a inside l (k ∙ sym leads))) in
      let steps : (j : ℕ) → after f (j + suc s.passed) a ≡ after f j y = λ j. after-add f j (suc s.passed) a ∙ ap (after f j) (sym there) in
      record {
        passed = t.passed + suc s.passed;
        lands = same ∙ t.lands ∙ sym (steps (suc t.passed))
            ∙ ap (λ i. after f i a) (let sum : suc t.passed + suc s.passed ≡ suc (t.passed + suc s.passed) = omega arith in sum);
        stays = subst (λ b. or_at out y b ≡ false) (sym same) (stays_left (g y) t.stays apart);
        over = λ j some few. elim (order j s.passed) [
          | inl early ↦ or_left (out (after f j a)) (after f j a == y) (s.over j some early)
          | inr (k, late) ↦ subst (λ (b : ℕ). or_at out y b ≡ true) (sym (ap (λ i. after f i a) late ∙ steps k)) (beyond k t.passed t.over (omega arith))
        ];
      } where
        order : (j m : ℕ) → (j ≤ m) ⊎ ((k : ℕ) × (j ≡ k + suc m))
        order j m = elim (cases_lt m j) [
          | inl many ↦ inr (j - suc m, omega arith)
          | inr few ↦ inl few
        ]

        beyond : (k m : ℕ) → ((j : ℕ) → 0 < j → j ≤ m → out (after f j y) ≡ true) → k ≤ m → or_at out y (after f k y) ≡ true
        beyond zero m over few = or_right (out y) (y == y) (eqb_self y)
        beyond (suc k) m over few = or_left (out (after f (suc k) y)) (after f (suc k) y == y) (over (suc k) (omega arith) few)

  pub bypass_skips : (a : ℕ) → a < n → or_at out y a ≡ false → Skips f (or_at out y) a (h a)
  bypass_skips a l e = grind (arith, or_left_false, false≢true, or_right_false, eqb_self, cases_eq, onward, elsewhere)

-- a segment is taken out
pub unchord_skips : {f g h : ℕ → ℕ} {n : ℕ} {out : ℕ → Bool} {d : ℕ} → d < n → twin d < n → IsPermutation g n → out d ≡ false
    → out (twin d) ≡ false → IsUnchord g h n d
    → ((a : ℕ) → a < n → out a ≡ false → Skips f out a (g a)) → (a : ℕ) → a < n → or_at (or_at out d) (twin d) a ≡ false
    → Skips f (or_at (or_at out d) (twin d)) a (h a)
unchord_skips {f} {g} {h} {n} {out} {d} inside other perm left other_left taken skips =
    bypass_skips f taken.half h n (or_at out d) (twin d) other (bypassed-permutation g taken.half n d perm inside taken.first)
    (ap (λ (t : Bool). t || twin d == d) other_left ∙ ne_eqb (twin d) d (twin-other d)) taken.second
    (bypass_skips f g taken.half n out d inside perm left taken.first skips)

-- another test with the same answers
pub skips_alike : (f : ℕ → ℕ) (n : ℕ) → IsPermutation f n → (out gone : ℕ → Bool) → ((b : ℕ) → b < n → out b ≡ gone b) → (a b : ℕ) → a < n → Skips f out a b
    → Skips f gone a b
skips_alike f n perm out gone same a b l s = grind (arith, after-within)

-- where all so far are out and the next is not, it is the one
pub skips_here : (f : ℕ → ℕ) (out : ℕ → Bool) (a b k : ℕ) → Skips f out a b → ((j : ℕ) → 0 < j → j ≤ k → out (after f j a) ≡ true)
    → out (after f (suc k) a) ≡ false → b ≡ after f (suc k) a
skips_here f out a b k s over here = elim (cases_eq s.passed k) [
  | inl same ↦ s.lands ∙ ap (λ i. after f (suc i) a) same
  | inr differ ↦ elim (cases_lt k s.passed) [
    | inl more ↦ absurd (false≢true (sym here ∙ s.over (suc k) (omega arith) more))
    | inr less ↦ absurd (false≢true (sym s.stays ∙ ap out s.lands ∙ over (suc s.passed) (omega arith) (omega arith)))
  ]
]

-- not all are out, since a comes again
pub skips_ends : (f : ℕ → ℕ) (out : ℕ → Bool) (n a k : ℕ) → IsPermutation f n → a < n → n ≤ k → out a ≡ false
    → ((j : ℕ) → 0 < j → j ≤ k → out (after f j a) ≡ true) → ⊥
skips_ends f out n a k perm l many left over =
    let (d, few, round) = period f n perm a l in
    false≢true (sym left ∙ ap out (sym round.home) ∙ over d round.some (omega (arith, few, many)))
