use Rattle.topo_dual.proofs.HalfNumbers.{face_read, face_within}
use Rattle.topo_dual.proofs.numbered.NumberedFaceGraph.face.Goals as goal

pub face-requires : goal.face-requires
face-requires c = face_within c.self.view_is c.self.invariant c.args.dart c.requires

pub returns : goal.returns
returns c = face_read c.self.view_is c.self.invariant c.args.dart c.requires c.face.result c.face.ensures
