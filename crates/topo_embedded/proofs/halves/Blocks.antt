-- A list that is looked through block by block.
use Rattle.std.proofs.Common.{◌≡◌, ◌+◌, ◌-◌, ◌<◌, ◌≤◌, ◌∷◌, Bool, false, true, ℕ, List, arith, drop, get_or, length, refl, suc, sym, take, ap, ◌∙◌, inl, inr}
use Rattle.std.specs.List.{list_any}
use Rattle.std.proofs.lemmas.Bool.{cases_lt, false≢true}
use Rattle.std.proofs.lemmas.List.{get_or-drop, get_or-take, length-drop, length-take-le}
use Rattle.std.proofs.lemmas.List.Folds.{list_any_at}

-- where no item passes a test, none at a place does
none_at : (p : ℕ → Bool) (xs : List ℕ) (k : ℕ) → list_any p xs ≡ false → k < length xs → p (get_or xs k 0) ≡ false
none_at p xs k none less = by_test (p (get_or xs k 0)) refl where
  by_test : (t : Bool) → p (get_or xs k 0) ≡ t → p (get_or xs k 0) ≡ false
  by_test false is = is
  by_test true is = absurd (false≢true (sym none ∙ list_any_at p xs k 0 less is))

-- none of the items so far, nor of the next ones
pub none_more : (p : ℕ → Bool) (xs : List ℕ) (begin n end : ℕ) → end ≡ begin + n → end ≤ length xs
    → ((k : ℕ) → k < begin → p (get_or xs k 0) ≡ false) → list_any p (take n (drop begin xs)) ≡ false → (k : ℕ) → k < end → p (get_or xs k 0) ≡ false
none_more p xs begin n end is within before none k less = elim (cases_lt k begin) [
  | inl lt ↦ before k lt
  | inr ge ↦ (
      let left : length (drop begin xs) ≡ length xs - begin = length-drop begin xs in
      let many : length (take n (drop begin xs)) ≡ n = length-take-le n (drop begin xs) (omega (arith, is, within, left)) in
      let same : begin + (k - begin) ≡ k = omega (arith, ge) in
      let read : get_or (take n (drop begin xs)) (k - begin) 0 ≡ get_or xs k 0 =
      get_or-take n (drop begin xs) (k - begin) 0 (omega (arith, is, less, ge)) ∙ get_or-drop begin xs (k - begin) 0 ∙ ap (λ i. get_or xs i 0) same in
      ap p (sym read) ∙ none_at p (take n (drop begin xs)) (k - begin) none (omega (arith, is, less, ge, many))
      )
]

-- none of the items from a place on, where the first is kept beside the others
pub none_behind : (p : ℕ → Bool) (first : ℕ) (others path : List ℕ) (from passed found : ℕ) → first ∷ others ≡ path → passed < from
    → found ≤ length (take (length others - passed) (drop passed others))
    → ((k : ℕ) → k < found → p (get_or (take (length others - passed) (drop passed others)) k 0) ≡ false) → (k : ℕ) → from ≤ k → k < 1 + passed + found
    → p (get_or path k 0) ≡ false
none_behind p first others path from passed found is less within none k begun ended =
    let n : ℕ = length others - passed in
    let j : ℕ = k - 1 - passed in
    let at : k ≡ suc (passed + j) = omega (arith, begun, less) in
    let all : length (take n (drop passed others)) ≡ n = length-take-le n (drop passed others) (omega (arith, length-drop passed others)) in
    let here : j < found = omega (arith, ended, begun, less) in
    ap (λ (hs : List ℕ). p (get_or hs k 0)) (sym is) ∙ ap (λ i. p (get_or (first ∷ others) i 0)) at
    ∙ ap p (sym (get_or-take n (drop passed others) j 0 (omega (arith, here, within, all)) ∙ get_or-drop passed others j 0))
    ∙ none j here
