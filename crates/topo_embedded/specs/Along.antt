-- The halves along an edge, as they are kept.
use Rattle.std.specs.Prelude.{ℕ, List, [], ◌∷◌}
use Rattle.topo_embedded.specs.declared.path.Line.{Line}
use Rattle.topo_embedded.specs.declared.path.Line.TheVariants.{One, More}

-- the first and the others
abbrev pub halves_along : Line → List ℕ
halves_along (One first) = first ∷ []
halves_along (More first others) = first ∷ others.value.items
