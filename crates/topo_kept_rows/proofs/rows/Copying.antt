-- Lists of lists as they are copied, one after another.
use Rattle.std.proofs.Common.{◌≡◌, ◌++◌, ◌∙◌, ◌+◌, ◌<◌, ap, get_or, length, List, sym, take, ℕ, [], ◌∷◌}
use Rattle.std.proofs.lemmas.List.{take_more}

-- one more is copied
pub one_more : (before after xs : List (List ℕ)) (i : ℕ) (copy item : List ℕ) → i < length xs → before ≡ take i xs → after ≡ before ++ copy ∷ []
    → copy ≡ item → item ≡ get_or xs i item → after ≡ take (i + 1) xs
one_more before after xs i copy item within was is same at =
    is ∙ ap (λ (ys : List (List ℕ)). ys ++ copy ∷ []) was ∙ ap (λ (y : List ℕ). take i xs ++ y ∷ []) (same ∙ at) ∙ sym (take_more xs i item within)
