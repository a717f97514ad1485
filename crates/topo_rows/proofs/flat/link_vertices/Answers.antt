use Rattle.std.proofs.Common.{arith}
use Rattle.topo_rows.proofs.Rounds.{linked_more, range_push_zero}
use Rattle.topo_rows.proofs.flat.link_vertices.Goals as goal

pub loop-v-preserved : goal.loop-v-preserved
loop-v-preserved c = grind (arith, linked_more, range_push_zero)
