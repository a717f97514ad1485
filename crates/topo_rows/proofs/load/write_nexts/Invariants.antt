use Rattle.std.proofs.Common.{◌≡◌, ℕ, ◌<◌, slice_index}
use Rattle.topo_core.specs.Cycles.{map_of}
use Rattle.topo_core.specs.Rotations.{face_next}
use Rattle.topo_rows.proofs.load.write_nexts.Given as goal

-- the turns of the twins so far
abbrev pub invariant-loop-dart : goal.invariant-loop-dart
invariant-loop-dart l = (a : ℕ) → a < l.dart → slice_index l.nexts a ≡ face_next (map_of l.images) a
