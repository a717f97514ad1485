use Rattle.std.proofs.Common.{◌∙◌, ◌+◌, ◌-◌, ◌*◌, arith, sym}
use Rattle.topo_embedded.specs.Halves.{on_segment}
use Rattle.topo_embedded.proofs.halves.Blocks.{none_more}
use Rattle.topo_embedded.proofs.path.blocks_before.Goals as goal

pub loop-block-preserved : goal.loop-block-preserved
loop-block-preserved c =
    let begin = 32 * c.loop-block.block in
    none_more (on_segment c.args.half) c.args.halves.now begin ((begin + 32) - begin) (32 * (c.loop-block.block + 1)) (omega arith)
    (omega (arith, c.loop-block-test.true)) c.loop-block.invariant (sym c.has_segment.ensures ∙ c.if-has_segment.false)
