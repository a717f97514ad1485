-- Which edges meet which crossings and vertices, as pairs: once as the lists have them, and once as they should.
use Rattle.std.specs.Prelude.{ℕ, ◌+◌, ◌*◌, ◌==◌, Bool, not, List, [], ◌∷◌, ◌++◌, map, flat_map, ◌&&◌, nat_lt, nat_le, slice_index_or}
use Rattle.std.specs.List.{list_all, list_any}
use Rattle.topo_core.specs.declared.rows.EdgeRow.{EdgeRow}
use Rattle.topo_core.specs.declared.rows.CrossRow.{CrossRow}
use Rattle.topo_core.specs.declared.rows.TheConstants.{KINDS}

-- a pair of an edge and a crossing or a vertex, as one number
abbrev pub pair : ℕ → ℕ → ℕ
pair e x = e * 4294967296 + x

-- each edge with each crossing on its path, as the paths have them
abbrev pub path_pairs : List EdgeRow → List ℕ
path_pairs edges = flat_map (λ row. map (pair row.id) row.crossings) edges

-- each edge with each crossing on its path, as the crossings want them
abbrev pub crossing_pairs : List CrossRow → List ℕ
crossing_pairs crossings = flat_map (λ x. pair x.crossed x.id ∷ pair x.newcomer x.id ∷ []) crossings

-- each edge with each vertex whose list has it, as the lists from that of vertex v on have them
abbrev pub rotation_pairs : ℕ → List (List ℕ) → List ℕ
rotation_pairs v [] = []
rotation_pairs v (around ∷ rest) = map (λ e. pair e v) around ++ rotation_pairs (v + 1) rest

-- each edge with its ends
abbrev pub end_pairs : List EdgeRow → List ℕ
end_pairs edges = flat_map (λ row. pair row.id row.a ∷ pair row.id row.b ∷ []) edges

-- the ends of an edge are two of n vertices, its kind is known, and its path names these crossings alone
abbrev pub is_valid_edge : ℕ → List ℕ → EdgeRow → Bool
is_valid_edge n ids row =
    nat_lt row.a n && nat_lt row.b n && not (row.a == row.b) && nat_lt row.kind KINDS && list_all (λ x. list_any (λ y. y == x) ids) row.crossings

-- the list begins with its least number
abbrev pub begins_with_least : List ℕ → Bool
begins_with_least around = list_all (nat_le (slice_index_or around 0 0)) around
