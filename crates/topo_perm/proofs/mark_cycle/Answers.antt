use Rattle.std.proofs.Common.{sym, ◌∙◌, ap, arith, length, ◌+◌, ◌||◌, slice_index_or, false}
use Rattle.topo_core.specs.Cycles.{map_of}
use Rattle.topo_core.proofs.Interface.{IsPeriod}
use Rattle.topo_perm.proofs.permutations.Lists.{mark_more, is_met-period, after_more}
use Rattle.topo_perm.proofs.mark_cycle.Goals as goal

-- the walk is back at its start, and has met all of its cycle
pub returns-then-at-start : goal.returns-then-at-start
returns-then-at-start c a l =
    let f = map_of c.args.images.now in
    let turn : IsPeriod f c.args.start (c.loop-steps._steps + 1) =
    record { some = omega arith; home = after_more f c.loop-steps._steps c.args.start ∙ ap f (sym c.loop-steps.invariant.place) ∙ c.if-at-start.true } in
    mark_more f c.loop-steps._steps c.args.start c.loop-steps.at a c.loop-steps.seen (slice_index_or c.args.seen.now a false) c.loop-steps.invariant.place
    (omega arith) (c.loop-steps.invariant.marked a l)
    ∙ ap (λ b. b || slice_index_or c.args.seen.now a false)
    (is_met-period f (length c.args.images.now) c.args.start a (c.loop-steps._steps + 1) turn (omega arith))
