use Rattle.std.proofs.Common.{arith}
use Rattle.topo_map.proofs.Steps.{live_twin}
use Rattle.topo_map.proofs.Walked.{live_on}
use Rattle.topo_map.proofs.faces.is_shorter.Goals as goal

pub next-at-requires : goal.next-at-requires
next-at-requires c = live_twin c.args.segments.now c.loop-steps.at c.twin.result c.twin.ensures c.loop-steps.invariant.live

pub next-other-requires : goal.next-other-requires
next-other-requires c =
    live_twin c.args.segments.now c.loop-steps.other c.twin-in-loop-steps.result c.twin-in-loop-steps.ensures c.loop-steps.invariant.live_other

pub loop-steps-preserved : goal.loop-steps-preserved
loop-steps-preserved c = grind (arith, live_on)
