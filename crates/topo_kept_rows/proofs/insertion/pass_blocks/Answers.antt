use Rattle.std.proofs.Common.{arith}
use Rattle.topo_kept_rows.proofs.rows.CrossedPaths.{passes_block}
use Rattle.topo_kept_rows.proofs.insertion.pass_blocks.Goals as goal

pub loop-place-preserved : goal.loop-place-preserved
loop-place-preserved c = grind (arith, passes_block)
