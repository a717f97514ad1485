use Rattle.std.proofs.Common.{◌≡◌, ◌≢◌, ◌<◌, ℕ, true, length}
use Rattle.topo_core.specs.Cycles.{after}
use Rattle.topo_core.specs.Picture.{darts, system}
use Rattle.topo_core.specs.Systems.{face_step, has_dart}
use Rattle.topo_embedded.specs.Halves.{half_in}
use Rattle.topo_picture.specs.Faces.{face_walk}
use Rattle.topo_picture.proofs.FaceWalks.{IsWalked}
use Rattle.topo_picture.proofs.faces.face_from.Given as goal

abbrev pub invariant-loop : goal.invariant-loop
invariant-loop l = IsWalked l.embedded.rows (half_in l.embedded) l.dart l.found.items l.half
