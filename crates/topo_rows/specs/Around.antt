-- Round a point.
use Rattle.std.specs.Prelude.{◌==◌, ◌+◌, ℕ, List, slice_index, slice_index_or}
use Rattle.std.specs.List.{position_or_len}

-- what stands after x in the list, and after the last the first
abbrev pub entry_after : List ℕ → ℕ → ℕ
entry_after xs x = slice_index_or xs (position_or_len (λ y. y == x) xs + 1) (slice_index xs 0)
