-- Items of a list.
use Rattle.std.specs.Prelude.{◌≡◌, ◌⊎◌, ℕ, ◌==◌, Bool, nat_lt, true, ◌&&◌, List, [], ◌∷◌, count_by, slice_index_or}
use Rattle.std.specs.List.{list_any}

-- x is an item of the list
abbrev pub IsIn : {X : Type 0} → X → List X → Type 0
IsIn x [] = ⊥
IsIn x (y ∷ ys) = (x ≡ y) ⊎ IsIn x ys

-- how often x stands in the list
abbrev pub occurrences : ℕ → List ℕ → ℕ
occurrences x xs = count_by (λ y. y == x) xs

-- x stands in the list
abbrev pub has_id : List ℕ → ℕ → Bool
has_id xs x = list_any (λ y. y == x) xs

-- ids rise, and all are below the limit
abbrev pub rises_below : ℕ → List ℕ → Bool
rises_below limit [] = true
rises_below limit (x ∷ xs) = nat_lt x (slice_index_or xs 0 limit) && rises_below limit xs
