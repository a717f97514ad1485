use Rattle.std.proofs.Common.{arith}
use Rattle.topo_core.proofs.numbering.Renumbering.{face_darts, face_numbers}
use Rattle.topo_core.proofs.laws.numbers_keep_faces.Goals as goal

pub returns : goal.returns
returns ctx rows good c d c_in d_in = grind (arith, face_numbers, face_darts)
