use Rattle.std.proofs.Common.{◌≡◌, ◌<◌, slice_index, ℕ}
use Rattle.topo_map.specs.Rotation.{face_of}
use Rattle.topo_embedded.proofs.embedded.canonical.write_faces.Given as goal

abbrev pub invariant-loop-place : goal.invariant-loop-place
invariant-loop-place l = (i : ℕ) → i < l.place → slice_index l.faces i ≡ face_of l.segments (slice_index l.halves i)
