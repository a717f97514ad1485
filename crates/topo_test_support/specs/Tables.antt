-- What a table of prices by entries has.
use Rattle.std.specs.Prelude.{ℕ, List, [], ◌∷◌, Option, cond, nat_lt, slice_set}

-- the entries of kinds below 64 put in one after the other
abbrev pub entered : List (Option ℕ) → List (ℕ × Option ℕ) → List (Option ℕ)
entered prices [] = prices
entered prices (entry ∷ entries) = entered (cond (nat_lt entry.0 64) (slice_set prices entry.0 entry.1) prices) entries
