-- A list that has an item for each place.
use Rattle.std.proofs.Common.{◌≡◌, ◌+◌, ◌++◌, ◌∷◌, [], List, ℕ, ap, arith, map, sym, ◌∙◌}
use Rattle.std.proofs.lemmas.List.FromFn.{map-range_with_len_more}
use Rattle.std.specs.List.{range_with_len}

-- the item of the next place comes to those of the places before
pub one_more : {X : Type 0} (f : ℕ → X) (n : ℕ) (old new : List X) (x : X) → new ≡ old ++ x ∷ [] → x ≡ f n → old ≡ map f (range_with_len 0 n)
    → new ≡ map f (range_with_len 0 (n + 1))
one_more f n old new x is x_is old_is =
    let here : 0 + n ≡ n = omega arith in
    is ∙ ap (λ l. l ++ x ∷ []) old_is ∙ ap (λ y. map f (range_with_len 0 n) ++ y ∷ []) x_is ∙ sym (map-range_with_len_more f 0 n n here)
