-- Which numbers the passes have.
use Rattle.std.proofs.Common.{◌≡◌, ℕ, zero, suc, ◌+◌, ◌<◌, ◌≤◌, List, [], ◌∷◌, ◌++◌, inl, inr, length}
use Rattle.std.proofs.Common.{get_or, refl, ap, sym, ◌∙◌, subst, arith, append_assoc, length-append}
use Rattle.topo_service.specs.Passes.{PassState}
use Rattle.topo_service.specs.Receipts.{HasNumber}

pub number_at : (n : ℕ) (ps : List PassState) (k : ℕ) (d : PassState) → k < length ps → (get_or ps k d).number ≡ n → HasNumber n ps
number_at n [] k d lt is = absurd (omega arith)
number_at n (p ∷ ps) zero d lt is = inl is
number_at n (p ∷ ps) (suc k) d lt is = inr (number_at n ps k d (omega arith) is)

pub number_push : (n : ℕ) (ps : List PassState) (p : PassState) → (HasNumber n ps → ⊥) → (p.number ≡ n → ⊥) → HasNumber n (ps ++ p ∷ []) → ⊥
number_push n [] p none not (inl e) = not e
number_push n [] p none not (inr h) = h
number_push n (q ∷ ps) p none not (inl e) = none (inl e)
number_push n (q ∷ ps) p none not (inr h) = number_push n ps p (λ a. none (inr a)) not h

-- the list without the pass that was found
strike : (n : ℕ) (ps : List PassState) → HasNumber n ps → List PassState
strike n [] a = absurd a
strike n (p ∷ ps) (inl e) = ps
strike n (p ∷ ps) (inr a) = p ∷ strike n ps a

strike_length : (n : ℕ) (ps : List PassState) (a : HasNumber n ps) → length ps ≡ suc (length (strike n ps a))
unfolding strike
strike_length n [] a = absurd a
strike_length n (p ∷ ps) (inl e) = refl
strike_length n (p ∷ ps) (inr a) = ap suc (strike_length n ps a)

strike_keeps : (n k : ℕ) (ps : List PassState) (a : HasNumber n ps) → (k ≡ n → ⊥) → HasNumber k ps → HasNumber k (strike n ps a)
unfolding strike
strike_keeps n k [] a not h = absurd a
strike_keeps n k (p ∷ ps) (inl e) not (inl e') = absurd (not (sym e' ∙ e))
strike_keeps n k (p ∷ ps) (inl e) not (inr h) = h
strike_keeps n k (p ∷ ps) (inr a) not (inl e') = inl e'
strike_keeps n k (p ∷ ps) (inr a) not (inr h) = inr (strike_keeps n k ps a not h)

-- where each number below g is there, there are at least g passes
pub enough : (g : ℕ) (ps : List PassState) → ((n : ℕ) → n < g → HasNumber n ps) → g ≤ length ps
enough zero ps f = omega arith
enough (suc m) ps f =
    let a : HasNumber m ps = f m (omega arith) in
    let less = enough m (strike m ps a) (λ n lt. strike_keeps m n ps a (λ e. omega (arith, e, lt)) (f n (omega (arith, lt)))) in
    omega (arith, less, strike_length m ps a)

-- no two passes have one number
abbrev pub Apart : List PassState → Type 0
Apart [] = Unit {0}
Apart (p ∷ ps) = (HasNumber p.number ps → ⊥) × Apart ps

-- a pass whose number stands behind it may be left out
skip : (n : ℕ) (qs : List PassState) (p : PassState) (ps : List PassState) → HasNumber p.number ps → HasNumber n (qs ++ p ∷ ps) → HasNumber n (qs ++ ps)
skip n [] p ps again (inl e) = subst (λ (m : ℕ). HasNumber m ps) e again
skip n [] p ps again (inr h) = h
skip n (q ∷ qs) p ps again (inl e) = inl e
skip n (q ∷ qs) p ps again (inr h) = inr (skip n qs p ps again h)

apart_behind : (g : ℕ) (qs ps : List PassState) → ((n : ℕ) → n < g → HasNumber n (qs ++ ps)) → length (qs ++ ps) ≤ g → Apart ps
apart_behind g qs [] f le = tt
apart_behind g qs (p ∷ ps) f le = (
  (λ again.
      let less = enough g (qs ++ ps) (λ n lt. skip n qs p ps again (f n lt)) in
      omega (arith, less, le, length-append qs ps, length-append qs (p ∷ ps))),
  (let same : (qs ++ p ∷ []) ++ ps ≡ qs ++ p ∷ ps = append_assoc qs (p ∷ []) ps in
      apart_behind g (qs ++ p ∷ []) ps (λ n lt. subst (HasNumber n) (sym same) (f n lt)) (subst (λ (l : List PassState). length l ≤ g) (sym same) le)),
)

-- as many passes as numbers that are all there: no number is there twice
pub apart : (g : ℕ) (ps : List PassState) → ((n : ℕ) → n < g → HasNumber n ps) → length ps ≤ g → Apart ps
apart g ps f le = apart_behind g [] ps f le

-- the parts of the ledger that are joined are all
pub all_parts : {parts : ℕ} (rest given len : ℕ) {res all : ℕ} → rest + given ≡ parts → all ≡ parts → res ≡ rest + len → (0 < len → res ≤ all) → given ≤ len
    → (res ≡ all) × (len ≤ given)
all_parts rest given zero a b c d e = (omega (arith, a, b, c, e), omega arith)
all_parts rest given (suc len) {res} {all} a b c d e = let f : res ≤ all = d (omega arith) in (omega (arith, a, b, c, e, f), omega (arith, a, b, c, e, f))
