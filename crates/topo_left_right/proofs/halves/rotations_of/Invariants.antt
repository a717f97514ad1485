-- There is a rotation for each vertex so far.
use Rattle.std.proofs.Common.{◌≡◌, vec_len}
use Rattle.topo_left_right.proofs.halves.rotations_of.Given as goal

abbrev pub invariant-loop-vertex : goal.invariant-loop-vertex
invariant-loop-vertex l = vec_len l.rotations ≡ l.vertex
