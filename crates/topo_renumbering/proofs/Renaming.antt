-- Lists that are made one by one from the rows of a picture.
use Rattle.std.proofs.Common.{◌≡◌, ◌<◌, ◌+◌, ℕ, List, [], ◌∷◌, ◌++◌, ap, arith, length, map, sym, take, ◌∙◌}
use Rattle.std.specs.List.{range_with_len}
use Rattle.std.specs.Prelude.{get_or}
use Rattle.std.proofs.lemmas.List.{map-append, map-id, take_more}
use Rattle.std.proofs.lemmas.List.FromFn.{map-range_with_len_more}

one_more : (n : ℕ) → range_with_len 0 (n + 1) ≡ range_with_len 0 n ++ n ∷ []
one_more n = sym (map-id (range_with_len 0 (n + 1))) ∙ map-range_with_len_more (λ (x : ℕ). x) 0 n n (omega arith)
    ∙ ap (λ (xs : List ℕ). xs ++ n ∷ []) (map-id (range_with_len 0 n))

-- one number more
pub one_numbered : {A : Type 0} (id : A → ℕ) (new : List A) (k : ℕ) (x : A) → map id new ≡ range_with_len 0 k → id x ≡ k
    → map id (new ++ x ∷ []) ≡ range_with_len 0 (k + 1)
one_numbered id new k x numbered is = map-append id new (x ∷ []) ∙ (λ j. numbered j ++ is j ∷ []) ∙ sym (one_more k)

-- one row more
pub one_named : {A B : Type 0} (f : A → B) (new : List A) (old : List B) (k : ℕ) (x : A) (d : B) → k < length old → map f new ≡ take k old
    → f x ≡ get_or old k d → map f (new ++ x ∷ []) ≡ take (k + 1) old
one_named f new old k x d less named is = map-append f new (x ∷ []) ∙ (λ j. named j ++ is j ∷ []) ∙ sym (take_more old k d less)
