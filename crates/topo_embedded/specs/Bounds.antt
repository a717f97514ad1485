-- Potentials of the faces, by their labels.
use Rattle.std.specs.Prelude.{◌≡◌, ◌≢◌, ◌⊎◌, ℕ, ◌≤◌, List, [], None, Option, Some, slice_index_or, true}
use Rattle.topo_core.specs.declared.rows.EdgeRow.{EdgeRow}
use Rattle.topo_core.specs.declared.rows.Rows.{Rows}
use Rattle.topo_core.specs.Picture.{edge_row}
use Rattle.topo_core.specs.Rotations.{twin}
use Rattle.topo_map.specs.Rotation.{Rotation, edge_of, face_of, is_live}
use Rattle.topo_route.specs.Potentials.{AreWithin, all_four}
use Rattle.topo_route.specs.declared.guided.potentials.Potentials.{Potentials}

pub record BoundsState : Type 0 where
  pub potentials : List Potentials
  pub floors : List ℕ

-- the potentials of a face, all 0 where none are kept of it
abbrev pub at_face : BoundsState → ℕ → Potentials
at_face b label = slice_index_or b.potentials label (all_four 0)

abbrev pub floor_of : BoundsState → ℕ → ℕ
floor_of b kind = slice_index_or b.floors kind 0

-- those on the left of a half are above those on its right by no more than the slope of its edge
abbrev pub IsConsistentAt : BoundsState → (ℕ → ℕ) → Rotation → ℕ → Type 0
IsConsistentAt b slope r a = AreWithin (slope (edge_of r a)) (at_face b (face_of r a)) (at_face b (face_of r (twin a)))

abbrev pub AreConsistentOn : BoundsState → (ℕ → ℕ) → Rotation → Type 0
AreConsistentOn b slope r = (a : ℕ) → is_live r a ≡ true → IsConsistentAt b slope r a

-- what was consistent is, whatever the slopes of the edges are
pub record GoesOn (r r' : Rotation) (b b' : BoundsState) : Type 0 where
  pub floors : b'.floors ≡ b.floors
  pub consistent : (slope : ℕ → ℕ) → AreConsistentOn b slope r → AreConsistentOn b' slope r'

-- the face with this label has these potentials, and the others those that they had
pub record IsPut (p p' : ℕ → Potentials) (label : ℕ) (here : Potentials) : Type 0 where
  pub at_label : p' label ≡ here
  pub others : (k : ℕ) → k ≢ label → p' k ≡ p k

-- a face is given potentials, or there are none any more; where there were none, there are none
pub record IsGiven (b b' : BoundsState) (label : ℕ) (here : Potentials) : Type 0 where
  pub floors : b'.floors ≡ b.floors
  pub none : b.potentials ≡ [] → b'.potentials ≡ []
  pub either : (b'.potentials ≡ []) ⊎ IsPut (at_face b) (at_face b') label here

-- the slope of each edge is no more than the floor of its kind, and an edge that comes later has none
pub record FitsRows (rows : Rows) (b : BoundsState) (slope : ℕ → ℕ) : Type 0 where
  pub fits : (e : ℕ) (row : EdgeRow) → edge_row rows e ≡ Some row → slope e ≤ floor_of b row.kind
  pub later : (e : ℕ) → rows.next_edge ≤ e → slope e ≡ 0

-- the floor of the kind of an edge, 0 where there is no such edge
abbrev pub slope_of_row : BoundsState → Option EdgeRow → ℕ
slope_of_row b None = 0
slope_of_row b (Some row) = floor_of b row.kind

abbrev pub slope_by : Rows → BoundsState → ℕ → ℕ
slope_by rows b e = slope_of_row b (edge_row rows e)
