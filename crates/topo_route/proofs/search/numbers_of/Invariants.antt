use Rattle.std.proofs.Common.{◌≡◌, take}
use Rattle.topo_route.specs.FaceHeights.{dart_heights}
use Rattle.topo_route.proofs.search.numbers_of.Given as goal

abbrev pub invariant-loop-dart : goal.invariant-loop-dart
invariant-loop-dart g l = l.numbers.items ≡ take l.dart (dart_heights (g.D.FaceGraph.named l.dual) (g.D.FaceGraph.face_of l.dual) l.heights)
