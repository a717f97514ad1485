-- Between which vertices a route may be looked for.
use Rattle.std.specs.Prelude.{◌≡◌, ◌<◌, ℕ, length}
use Rattle.topo_core.specs.declared.rows.Rows.{Rows}
use Rattle.topo_core.specs.declared.calls.Refusal.{Refusal}
use Rattle.topo_core.specs.declared.calls.Refusal.TheVariants.{NoVertex, SameEnds, NoPosition, NoEdge, BadKind, Cut, Full, Memory, NoRoute}

-- both are vertices
abbrev pub HasVertices : Rows → ℕ → ℕ → Type 0
HasVertices rows u v = (u < length rows.rotations) × (v < length rows.rotations)

-- why no route is looked for between these: one is no vertex, or they are the same
abbrev pub IsEndsRefusal : Rows → ℕ → ℕ → Refusal → Type 0
IsEndsRefusal rows u v NoVertex = HasVertices rows u v → ⊥
IsEndsRefusal rows u v SameEnds = HasVertices rows u v × (u ≡ v)
IsEndsRefusal rows u v NoRoute = ⊥
IsEndsRefusal rows u v Memory = ⊥
IsEndsRefusal rows u v NoPosition = ⊥
IsEndsRefusal rows u v NoEdge = ⊥
IsEndsRefusal rows u v BadKind = ⊥
IsEndsRefusal rows u v (Cut segment) = ⊥
IsEndsRefusal rows u v Full = ⊥
