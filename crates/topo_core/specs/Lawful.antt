-- Lawful pictures: connected embeddings of genus zero.
use Rattle.std.specs.Prelude.{◌≡◌, ℕ, ◌+◌, ◌==◌, nat_lt, nat_le, Bool, true, ◌&&◌, ◌||◌, not, if◌then◌else◌, map, length, sum_by, slice_index_or, is_some}
use Rattle.std.specs.List.{list_all}
use Rattle.topo_core.specs.declared.rows.Rows.{Rows}
use Rattle.topo_core.specs.declared.rows.EdgeRow.{EdgeRow}
use Rattle.topo_core.specs.declared.rows.CrossRow.{CrossRow}
use Rattle.topo_core.specs.Items.{occurrences, rises_below}
use Rattle.topo_core.specs.Picture.{vertices, rotation, edge_row, cross_row, segment_count, system, face_count}
use Rattle.topo_core.specs.Systems.{Connected}
use Rattle.topo_core.specs.declared.rows.TheConstants.{KINDS}

-- the ends are two vertices, the kind is known, and the path names crossings that are there
abbrev pub has_good_path : Rows → EdgeRow → Bool
has_good_path rows row = nat_lt row.a (length rows.rotations) && nat_lt row.b (length rows.rotations) && not (row.a == row.b)
    && nat_lt row.kind KINDS && list_all (λ x. is_some (cross_row rows x)) row.crossings

abbrev pub has_good_paths : Rows → Bool
has_good_paths rows = rises_below rows.next_edge (map (λ row. row.id) rows.edges) && list_all (has_good_path rows) rows.edges

-- a crossing is of two edges that are there, and is once in each of their paths and in no other
abbrev pub is_good_crossing : Rows → CrossRow → Bool
is_good_crossing rows x = not (x.crossed == x.newcomer) && is_some (edge_row rows x.crossed) && is_some (edge_row rows x.newcomer)
    && list_all (λ row. occurrences x.id row.crossings == (if row.id == x.crossed || row.id == x.newcomer then 1 else 0)) rows.edges

abbrev pub has_good_crossings : Rows → Bool
has_good_crossings rows = rises_below rows.next_crossing (map (λ x. x.id) rows.crossings) && list_all (is_good_crossing rows) rows.crossings

-- v's list has once each edge with an end at v and nothing else, and begins with its least id
abbrev pub has_good_rotation : Rows → ℕ → Bool
has_good_rotation rows v = let around = rotation rows v in
    list_all (λ row. occurrences row.id around == (if row.a == v || row.b == v then 1 else 0)) rows.edges
    && list_all (λ e. is_some (edge_row rows e)) around
    && list_all (nat_le (slice_index_or around 0 0)) around

abbrev pub has_good_rotations : Rows → Bool
has_good_rotations rows = list_all (has_good_rotation rows) (vertices rows)

-- Euler's formula: points - segments + faces = 2
abbrev pub HasGenusZero : Rows → Type 0
HasGenusZero rows = length rows.rotations + length rows.crossings + face_count rows ≡ sum_by segment_count rows.edges + 2

-- rows that are an embedding, of any genus and any number of parts
pub record IsWellFormed (rows : Rows) : Type 0 where
  pub paths : has_good_paths rows ≡ true
  pub crossings : has_good_crossings rows ≡ true
  pub rotations : has_good_rotations rows ≡ true

-- rows that are a connected embedding, of any genus
pub record IsEmbedding (rows : Rows) : Type 0 where
  pub well_formed : IsWellFormed rows
  pub connected : Connected (system rows)

-- a connected embedding of genus zero
pub record Lawful (rows : Rows) : Type 0 where
  pub embedding : IsEmbedding rows
  pub genus_zero : HasGenusZero rows
