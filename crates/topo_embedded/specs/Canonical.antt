-- The halves along paths, in canonical order.
use Rattle.std.specs.Prelude.{ℕ, List, [], ◌∷◌, flat_map}
use Rattle.topo_core.specs.Rotations.{twin}

-- the two halves of each segment of a path
abbrev pub halves_of : List ℕ → List ℕ
halves_of path = flat_map (λ h. h ∷ twin h ∷ []) path
