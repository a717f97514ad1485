-- Edges and crossings as they are kept, in tables by their ids.
use Rattle.std.specs.Prelude.{◌≡◌, ℕ, List, map}
use Rattle.std.specs.List.{All}
use Rattle.topo_core.specs.declared.darts.Dart.{Dart}
use Rattle.topo_core.specs.declared.rows.CrossRow.{CrossRow}
use Rattle.topo_core.specs.Changes.{sign_of}
use Rattle.topo_table.specs.Places.{Places, entries, values_in}
use Rattle.topo_core.specs.declared.rows.EdgeRow.{EdgeRow}
use Rattle.topo_kept_rows.specs.declared.kept.Crossing.{Crossing}

-- the row of a crossing with its id
abbrev pub crossing_row : ℕ × Crossing → CrossRow
crossing_row e = record { id = e.0; crossed = e.1.crossed; newcomer = e.1.newcomer; sign = e.1.sign }

-- the rows of the crossings in a table
abbrev pub rows_of : Places Crossing → List CrossRow
rows_of table = map crossing_row (entries table)

-- the rows of the edges in a table
abbrev pub edges_of : Places EdgeRow → List EdgeRow
edges_of table = values_in table

-- each edge stands in the table under its own id
abbrev pub HaveOwnIds : Places EdgeRow → Type 0
HaveOwnIds table = All (λ e. e.1.id ≡ e.0) (entries table)

-- the crossing with this id of a dart that edge f crosses
abbrev pub new_entry : ℕ → ℕ × Dart → ℕ × Crossing
new_entry f x = (x.0, record { crossed = x.1.edge; newcomer = f; sign = sign_of x.1.way })
