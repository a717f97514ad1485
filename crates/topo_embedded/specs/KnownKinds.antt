-- The kinds of the edges of rows, by their ids, as far as they are known.
use Rattle.std.specs.Prelude.{◌≡◌, ◌⊎◌, ℕ, ◌≤◌, List, [], ◌∷◌, ◌++◌, Some, length, slice_get}
use Rattle.topo_core.specs.declared.rows.EdgeRow.{EdgeRow}
use Rattle.topo_core.specs.declared.rows.Rows.{Rows}
use Rattle.topo_core.specs.Picture.{edge_row}

-- what is known of an edge is its kind, and nothing is known of an edge that comes later
pub record AreKindsOf (rows : Rows) (kinds : List ℕ) : Type 0 where
  pub known : (e kind : ℕ) (row : EdgeRow) → slice_get kinds e ≡ Some kind → edge_row rows e ≡ Some row → row.kind ≡ kind
  pub few : length kinds ≤ rows.next_edge

-- the kind of the next edge is known too, or all is as before
abbrev pub IsNoted : List ℕ → List ℕ → ℕ → ℕ → Type 0
IsNoted kinds kinds' edge kind = (kinds' ≡ kinds) ⊎ ((length kinds ≡ edge) × (kinds' ≡ kinds ++ kind ∷ []))
