-- The halves along each edge, as they are kept: in a table, by the ids of the edges.
use Rattle.std.specs.Prelude.{◌≡◌, ℕ, List, [], length, map, slice_index_or, slice_set}
use Rattle.topo_core.specs.declared.rows.Rows.{Rows}
use Rattle.topo_table.specs.Places.{AreBelow, KeepsPlaces, Places, ids_in, place_in, values_in}

-- the path of an edge
abbrev pub path_in : Places (List ℕ) → ℕ → List ℕ
path_in paths e = slice_index_or (values_in paths) (place_in (ids_in paths) e) []

-- paths of the same edges, at the same places, with the same room
abbrev pub KeepsIds : Places (List ℕ) → Places (List ℕ) → Type 0
KeepsIds was now = (ids_in now ≡ ids_in was) × KeepsPlaces was now

-- the paths with another one for an edge
abbrev pub IsPathAt : Places (List ℕ) → Places (List ℕ) → ℕ → List ℕ → Type 0
IsPathAt was now e path = values_in now ≡ slice_set (values_in was) (place_in (ids_in was) e) path

-- the paths with another one for an edge, of which this holds
pub record IsPathSo (was now : Places (List ℕ)) (e : ℕ) (so : List ℕ → Type 0) : Type 0 where
  pub path : List ℕ
  pub put : IsPathAt was now e path
  pub is : so path

-- there is a path for each edge of rows, and for no other, and a place for each id that was given
pub record AreForEdges (rows : Rows) (paths : Places (List ℕ)) : Type 0 where
  pub ids : ids_in paths ≡ map (λ row. row.id) rows.edges
  pub below : AreBelow rows.next_edge paths.slots
  pub count : length paths.slots ≡ rows.next_edge
