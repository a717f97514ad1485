-- Labels of the faces of segments in a slab. No public clause cites this module.
use Rattle.std.specs.Prelude.{◌≡◌, ℕ, ◌<◌, true, cond}
use Rattle.slab.specs.Slab.{Slab}
use Rattle.topo_core.specs.Cycles.{is_met}
use Rattle.topo_core.specs.Rotations.{face_next}
use Rattle.topo_perm.specs.FaceLabels.{LabelsFaces}
use Rattle.topo_map.specs.Rotation.{half_limit}
use Rattle.topo_map.specs.Segments.{IsKept, Repaints, face_in, holds, next_in}
use Rattle.topo_map.specs.declared.segments.Segment.{Segment}

-- two live halves have one label exactly where they lie in one face, and no label from the unused one on is given
pub record IsLabelled (s : Slab Segment) (unused : ℕ) : Type 0 where
  pub labels : LabelsFaces (holds s) (next_in s) (face_in s)
  pub below : (a : ℕ) → holds s a ≡ true → face_in s a < unused

-- what an embedding always is
pub record IsSound (s : Slab Segment) (unused : ℕ) : Type 0 where
  pub kept : IsKept s
  pub labels : IsLabelled s unused

-- what is met within n steps from a start has a new label
abbrev pub painted : (ℕ → ℕ) → ℕ → ℕ → ℕ → (ℕ → ℕ) → ℕ → ℕ
painted f n start label l a = cond (is_met f n start a) label (l a)

-- the whole face of a half has a new label, and all else the old ones
abbrev pub IsPainted : Slab Segment → Slab Segment → ℕ → ℕ → Type 0
IsPainted old new start label = Repaints old new (painted (face_next (next_in old)) half_limit start label (face_in old))
