use Rattle.std.proofs.Common.{arith}
use Rattle.topo_embedded.proofs.halves.Numbers.{face_half, half_alive}
use Rattle.topo_embedded.proofs.embedded.Embedded.face_next.Goals as goal

pub face_next-requires : goal.face_next-requires
face_next-requires c = grind (arith, half_alive)

pub returns : goal.returns
returns c = grind (arith, face_half)
