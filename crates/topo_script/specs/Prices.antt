-- Lists of prices, by kind. A kind past the end has price 1.
use Rattle.std.specs.Prelude.{ℕ, ◌==◌, ◌&&◌, Bool, true, false, List, [], ◌∷◌, Option, Some, None, if◌then◌else◌}

abbrev pub is_one : Option ℕ → Bool
is_one None = false
is_one (Some n) = n == 1

abbrev pub all_ones : List (Option ℕ) → Bool
all_ones [] = true
all_ones (price ∷ prices) = is_one price && all_ones prices

-- without the ones at the end
abbrev pub without_ones : List (Option ℕ) → List (Option ℕ)
without_ones [] = []
without_ones (price ∷ prices) = if all_ones (price ∷ prices) then [] else price ∷ without_ones prices
