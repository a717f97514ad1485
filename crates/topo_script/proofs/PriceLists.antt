-- Prices without the ones at their end.
use Rattle.std.proofs.Common.{◌≡◌, ℕ, ◌+◌, ◌<◌, ◌&&◌, Bool, true, false, List, [], ◌∷◌, ◌++◌, length, take, get_or, Option, refl, sym, ap, ◌∙◌}
use Rattle.std.proofs.lemmas.List.{take_more}
use Rattle.topo_script.specs.Prices.{is_one, all_ones, without_ones}

and_false : (b : Bool) → (b && false) ≡ false
and_false true = refl
and_false false = refl

all_ones-one : (xs : List (Option ℕ)) (p : Option ℕ) → is_one p ≡ true → all_ones (xs ++ p ∷ []) ≡ all_ones xs
all_ones-one [] p e = rw e
all_ones-one (x ∷ xs) p e = ap (λ b. is_one x && b) (all_ones-one xs p e)

all_ones-other : (xs : List (Option ℕ)) (p : Option ℕ) → is_one p ≡ false → all_ones (xs ++ p ∷ []) ≡ false
all_ones-other [] p e = rw e
all_ones-other (x ∷ xs) p e = ap (λ b. is_one x && b) (all_ones-other xs p e) ∙ and_false (is_one x)

pub without_ones-one : (xs : List (Option ℕ)) (p : Option ℕ) → is_one p ≡ true → without_ones (xs ++ p ∷ []) ≡ without_ones xs
without_ones-one [] p e = rw e
without_ones-one (x ∷ xs) p e = rw (all_ones-one xs p e, without_ones-one xs p e)

pub without_ones-other : (xs : List (Option ℕ)) (p : Option ℕ) → is_one p ≡ false → without_ones (xs ++ p ∷ []) ≡ xs ++ p ∷ []
without_ones-other [] p e = rw e
without_ones-other (x ∷ xs) p e = rw (all_ones-other xs p e, and_false (is_one x), without_ones-other xs p e)

pub one_more_kept : (xs : List (Option ℕ)) (i kept : ℕ) (d : Option ℕ) → i < length xs → is_one (get_or xs i d) ≡ true → take kept xs ≡ without_ones (take i xs)
    → take kept xs ≡ without_ones (take (i + 1) xs)
one_more_kept xs i kept d h one e = e ∙ sym (ap without_ones (take_more xs i d h) ∙ without_ones-one (take i xs) (get_or xs i d) one)

pub all_kept : (xs : List (Option ℕ)) (i : ℕ) (d : Option ℕ) → i < length xs → is_one (get_or xs i d) ≡ false → take (i + 1) xs ≡ without_ones (take (i + 1) xs)
all_kept xs i d h other = take_more xs i d h ∙ sym (ap without_ones (take_more xs i d h) ∙ without_ones-other (take i xs) (get_or xs i d) other)
