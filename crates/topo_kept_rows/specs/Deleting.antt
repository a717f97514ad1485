-- What a deletion reads of the rows while it takes an edge out.
use Rattle.std.specs.Prelude.{◌≡◌, ◌≢◌, ◌≤◌, ◌<◌, ◌+◌, ◌-◌, ℕ, nat_le, ◌==◌, true, false, if◌then◌else◌, not, List}
use Rattle.std.specs.Prelude.{[], filter, find, is_some, length, unwrap_or, slice_index_or, slice_set}
use Rattle.std.specs.List.{list_all}
use Rattle.topo_core.specs.declared.darts.Sign.TheVariants.{LeftToRight}
use Rattle.topo_core.specs.declared.rows.EdgeRow.{EdgeRow}
use Rattle.topo_core.specs.declared.rows.CrossRow.{CrossRow}
use Rattle.topo_core.specs.Changes.{from_least}
use Rattle.topo_core.specs.Items.{has_id, IsIn, occurrences}

-- the row of a crossing that is there, and else an empty one
abbrev pub crossing_at : List CrossRow → ℕ → CrossRow
crossing_at crossings x = unwrap_or (find (λ row. row.id == x) crossings) (record { id = x; crossed = 0; newcomer = 0; sign = LeftToRight })

-- the other edge of a crossing of e
abbrev pub other_edge : List CrossRow → ℕ → ℕ → ℕ
other_edge crossings e x = let row = crossing_at crossings x in if row.crossed == e then row.newcomer else row.crossed

-- crossing x has a row, and stands on the path of its other edge alone
pub record IsCrossed (crossings : List CrossRow) (e : ℕ) (edges : List EdgeRow) (x : ℕ) : Type 0 where
  pub known : is_some (find (λ row. row.id == x) crossings) ≡ true
  pub there : is_some (find (λ row. row.id == other_edge crossings e x) edges) ≡ true
  pub elsewhere : (row : EdgeRow) → IsIn row edges → row.id ≢ other_edge crossings e x → has_id row.crossings x ≡ false

-- the list begins with its least id, and each stands in it once
pub record IsRotation (around : List ℕ) : Type 0 where
  pub least : list_all (nat_le (slice_index_or around 0 0)) around ≡ true
  pub once : (e : ℕ) → occurrences e around ≤ 1

-- the last id of a list is below all between it and the first
abbrev pub IsLastNext : List ℕ → Type 0
IsLastNext ids = (k : ℕ) → 0 < k → k + 1 < length ids → slice_index_or ids (length ids - 1) 0 < slice_index_or ids k 0

-- a rotation without e, from its least id on
abbrev pub rotation_without : ℕ → List ℕ → List ℕ
rotation_without e around = from_least (filter (λ f. not (f == e)) around)

-- the rotations with that of v without e
abbrev pub left_by : ℕ → ℕ → List (List ℕ) → List (List ℕ)
left_by e v rotations = slice_set rotations v (rotation_without e (slice_index_or rotations v []))
