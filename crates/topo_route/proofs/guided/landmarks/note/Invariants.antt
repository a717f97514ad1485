use Rattle.std.proofs.Common.{◌≡◌, length}
use Rattle.topo_route.proofs.guided.landmarks.note.Given as goal

abbrev pub invariant-loop-face : goal.invariant-loop-face
invariant-loop-face l = length l.faces ≡ length l.fn.faces
