-- Rows with their embedding as a search walks on them: each dart goes by the number of its half.
use Rattle.std.specs.Prelude.{◌≡◌, ℕ, ◌<◌, Bool, true, cond, List, Option, length, slice_index_or}
use Rattle.topo_core.specs.declared.darts.Way.{Way}
use Rattle.topo_core.specs.declared.darts.Way.TheVariants.{Forward, Back}
use Rattle.topo_core.specs.declared.rows.EdgeRow.{EdgeRow}
use Rattle.topo_core.specs.Lawful.{Lawful}
use Rattle.topo_map.specs.Rotation.{Rotation, Slot, is_live, turn_in}
use Rattle.topo_route.specs.Names.{HasFaces, IsNamed, Named}
use Rattle.topo_rows.specs.Recovering.{lawful_again}
use Rattle.topo_route.specs.Potentials.{AreConsistent}
use Rattle.topo_embedded.specs.Bounds.{BoundsState, at_face, floor_of}
use Rattle.topo_embedded.specs.Halves.{IsHalf, RowsWithPaths, by_way, half_in}
use Rattle.topo_embedded.specs.KnownFaces.{faces_known}

-- one of the two halves at a place of a path is this one
pub record IsOnPath (path : List ℕ) (half : ℕ) : Type 0 where
  pub seg : ℕ
  pub way : Way
  pub within : seg < length path
  pub is : by_way (slice_index_or path seg 0) way ≡ half

-- the segment at an end of an edge, the first one or else the last, and the way from there
abbrev pub end_seg : EdgeRow → Bool → ℕ
end_seg row b = cond b 0 (length row.crossings)

abbrev pub end_way : Bool → Way
end_way b = cond b Forward Back

-- the darts by their halves, all of which are below a size
abbrev pub named_in : RowsWithPaths → ℕ → Named
named_in p size = record { rows = p.rows; name = half_in p; size = size }

-- the halves of darts are live
abbrev pub AreLive : RowsWithPaths → Rotation → Type 0
AreLive p r = (h : ℕ) → IsHalf p h → is_live r h ≡ true

-- lawful rows whose darts have halves of their own below a size, at each key the labels of the faces of its two halves, and potentials of the faces
pub record FaceGraphRows : Type 0 where
  pub embedded : RowsWithPaths
  pub size : ℕ
  pub faces : List (Option Slot)
  pub bound : ℕ
  pub named : IsNamed (named_in embedded size)
  pub lawful : ∥ Lawful embedded.rows ∥₁
  pub told : ∥ HasFaces (named_in embedded size) (turn_in faces) bound ∥₁
  pub bounds : BoundsState
  pub consistent : AreConsistent (named_in embedded size) (turn_in faces) (at_face bounds) (floor_of bounds)

abbrev pub named_rows : FaceGraphRows → Named
named_rows w = named_in w.embedded w.size

pub names_apart : (w : FaceGraphRows) → IsNamed (named_rows w)
names_apart w = w.named

pub faces_apart : (w : FaceGraphRows) → HasFaces (named_rows w) (turn_in w.faces) w.bound
faces_apart w = faces_known (named_rows w) (lawful_again w.embedded.rows w.lawful) (turn_in w.faces) w.bound w.told

pub consistent_potentials : (w : FaceGraphRows) → AreConsistent (named_rows w) (turn_in w.faces) (at_face w.bounds) (floor_of w.bounds)
consistent_potentials w = w.consistent
