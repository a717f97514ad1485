use Rattle.std.proofs.Common.{◌≡◌, [], length}
use Rattle.topo_route.proofs.guided.landmarks.landmark_distances.Given as goal

abbrev pub invariant-loop-landmark : goal.invariant-loop-landmark
invariant-loop-landmark g l = (length l.faces.items ≡ g.W.FaceGraph.face_bound l.graph) × (l.work.to_start.heights ≡ [])
