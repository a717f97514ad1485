-- Paths with new crossings woven in: what stands in them, and how often.
use Rattle.std.proofs.Common.{◌≡◌, ℕ, suc, ◌+◌, ◌<◌, Bool, true, false, cond, List, [], ◌∷◌, length, refl, ap, ◌∙◌, arith, inl, inr}
use Rattle.std.specs.Prelude.{◌⊎◌, ◌==◌, map, filter, option_map, unwrap_or, sum_by}
use Rattle.std.specs.List.{enumerate_from, range_with_len}
use Rattle.std.proofs.lemmas.List.Sums.{sum_by-append, sum_by-cons}
use Rattle.topo_core.specs.Items.{IsIn, occurrences}
use Rattle.topo_core.specs.Changes.{woven}
use Rattle.topo_core.proofs.numbering.Counting.{eqb_more, one, sum_found, sum_nothing, sum_of_map}
use Rattle.topo_core.proofs.growing.Growing.{in_append}
use Rattle.topo_core.proofs.inserting.ShownRows.{find_numbered, number_from, in_images, rises_on}

-- ---- What stands in a path

-- an item that passes is an item
pub in_filter : {X : Type 0} (p : X → Bool) (x : X) (xs : List X) → IsIn x (filter p xs) → IsIn x xs
in_filter p x [] h = absurd h
in_filter p x (y ∷ xs) h = by_test (in_filter p x xs) (p y) h where
  by_test : (IsIn x (filter p xs) → IsIn x xs) → (b : Bool) → IsIn x (cond b (y ∷ filter p xs) (filter p xs)) → IsIn x (y ∷ xs)
  by_test rest true (inl e) = inl e
  by_test rest true (inr h) = inr (rest h)
  by_test rest false h = inr (rest h)

-- what stands in a woven path was there or is new on one of its segments
pub in_woven : (new : ℕ → List ℕ) (s x : ℕ) (path : List ℕ) → IsIn x (woven new s path) → IsIn x path ⊎ ((i : ℕ) × IsIn x (new i))
in_woven new s x [] h = inr (s, h)
in_woven new s x (y ∷ path) h = elim (in_append x (new s) (y ∷ woven new (s + 1) path) h) [
  | inl here ↦ inr (s, here)
  | inr later ↦ elim later [
    | inl e ↦ inl (inl e)
    | inr later ↦ elim (in_woven new (s + 1) x path later) [ inl old ↦ inl (inr old) | inr new_one ↦ inr new_one ]
  ]
]

-- ---- How often

-- how often x stands in a woven path: as often as before, and as often as in the new crossings of all segments
pub occurrences-woven : (new : ℕ → List ℕ) (s x : ℕ) (path : List ℕ)
    → occurrences x (woven new s path) ≡ occurrences x path + sum_by (λ i. occurrences x (new i)) (range_with_len s (suc (length path)))
occurrences-woven new s x [] = let one_term = sum_by-cons (λ i. occurrences x (new i)) s [] in omega arith
occurrences-woven new s x (y ∷ path) =
    let parts = sum_by-append (λ z. one (z == x)) (new s) (y ∷ woven new (s + 1) path) in
    let here = sum_by-cons (λ z. one (z == x)) y (woven new (s + 1) path) in
    let before = sum_by-cons (λ z. one (z == x)) y path in
    let rest = occurrences-woven new (s + 1) x path in
    let terms = sum_by-cons (λ i. occurrences x (new i)) s (range_with_len (s + 1) (suc (length path))) in omega arith

-- how often x is the number of an item that passes
pub counted_numbers : {X : Type 0} (p : ℕ × X → Bool) (x : ℕ) (ys : List (ℕ × X))
    → occurrences x (map (λ y. y.0) (filter p ys)) ≡ sum_by (λ y. cond {A = ℕ} (y.0 == x) (one (p y)) 0) ys
counted_numbers p x [] = refl
counted_numbers p x (y ∷ ys) = by_test (p y) (counted_numbers p x ys) refl where
  step : sum_by (λ y. cond {A = ℕ} (y.0 == x) (one (p y)) 0) (y ∷ ys) ≡ cond {A = ℕ} (y.0 == x) (one (p y)) 0
      + sum_by (λ y. cond {A = ℕ} (y.0 == x) (one (p y)) 0) ys
  step = sum_by-cons (λ y. cond {A = ℕ} (y.0 == x) (one (p y)) 0) y ys

  nothing : (t : Bool) → cond {A = ℕ} t 0 0 ≡ 0
  nothing true = refl
  nothing false = refl

  by_test : (b : Bool) → occurrences x (map (λ y. y.0) (filter p ys)) ≡ sum_by (λ y. cond {A = ℕ} (y.0 == x) (one (p y)) 0) ys → p y ≡ b
      → occurrences x (map (λ y. y.0) (cond b (y ∷ filter p ys) (filter p ys))) ≡ sum_by (λ y. cond {A = ℕ} (y.0 == x) (one (p y)) 0) (y ∷ ys)
  by_test true rest e =
      let counted = sum_by-cons (λ z. one (z == x)) y.0 (map (λ y. y.0) (filter p ys)) in
      let here : cond {A = ℕ} (y.0 == x) (one (p y)) 0 ≡ one (y.0 == x) = ap (λ (b : Bool). cond {A = ℕ} (y.0 == x) (one b) 0) e in omega (arith, step)
  by_test false rest e = grind (arith, one, nothing, step)

-- the number of an item is counted once where the item passes
pub number_counted : {X : Type 0} (p : ℕ × X → Bool) (n x : ℕ) (d : X) (ds : List X) → IsIn (x, d) (enumerate_from n ds)
    → occurrences x (map (λ y. y.0) (filter p (enumerate_from n ds))) ≡ one (p (x, d))
number_counted p n x d ds h =
    counted_numbers p x (enumerate_from n ds)
    ∙ sum_found (λ y. y.0) (λ y. one (p y)) (n + length ds) x (enumerate_from n ds) (rises_on [] n ds refl)
    ∙ ap (λ o. unwrap_or (option_map (λ y. one (p y)) o) 0) (find_numbered n x d ds h)

-- a number below the first is not counted
pub below_not_counted : {X : Type 0} (p : ℕ × X → Bool) (n x : ℕ) (ds : List X) → x < n → occurrences x (map (λ y. y.0) (filter p (enumerate_from n ds))) ≡ 0
below_not_counted p n x ds low = sum_nothing (λ z. one (z == x)) (map (λ y. y.0) (filter p (enumerate_from n ds))) (λ z h.
    let image = in_images (λ y. y.0) z (filter p (enumerate_from n ds)) h in
    let high = number_from n image.0.0 image.0.1 ds (in_filter p image.0 (enumerate_from n ds) image.1) in
    let same = image.2 in
    ap one (eqb_more z x (omega arith)))

-- among all numbers the number of an item stands once
pub number_once : {X : Type 0} (n x : ℕ) (d : X) (ds : List X) → IsIn (x, d) (enumerate_from n ds) → occurrences x (map (λ y. y.0) (enumerate_from n ds)) ≡ 1
number_once n x d ds h =
    sum_of_map (λ z. one (z == x)) (λ y. y.0) (enumerate_from n ds)
    ∙ sum_found (λ y. y.0) (λ y. 1) (n + length ds) x (enumerate_from n ds) (rises_on [] n ds refl)
    ∙ ap (λ o. unwrap_or (option_map (λ y. 1) o) 0) (find_numbered n x d ds h)

-- and a number below the first never
pub below_never : {X : Type 0} (n x : ℕ) (ds : List X) → x < n → occurrences x (map (λ y. y.0) (enumerate_from n ds)) ≡ 0
below_never n x ds low = sum_nothing (λ z. one (z == x)) (map (λ y. y.0) (enumerate_from n ds)) (λ z h.
    let image = in_images (λ y. y.0) z (enumerate_from n ds) h in
    let high = number_from n image.0.0 image.0.1 ds image.1 in
    let same = image.2 in
    ap one (eqb_more z x (omega arith)))
