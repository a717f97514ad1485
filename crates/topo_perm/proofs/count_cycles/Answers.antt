use Rattle.std.proofs.Common.{sym, ◌∙◌, ap, arith, length, ◌≡◌, true, false, slice_index_or}
use Rattle.topo_perm.proofs.permutations.Lists.{count_below-le, first_counted, later_not_counted, marked_already, some_below_more}
use Rattle.topo_perm.proofs.permutations.Exchange.{is_met-equivalence}
use Rattle.topo_core.specs.Cycles.{map_of, is_met, is_first, some_below}
use Rattle.topo_perm.proofs.count_cycles.Goals as goal
use Rattle.topo_perm.proofs.count_cycles.Goals.{then-not-seen-start, else-not-seen-start}

pub overflow_add-count : goal.overflow_add-count
overflow_add-count c =
    omega (arith, c.loop-start.invariant.counted, count_below-le (is_first (is_met (map_of c.args.images.now) (length c.args.images.now))) c.loop-start.start)

pub loop-start-preserved : goal.loop-start-preserved
loop-start-preserved c =
    let f = map_of c.args.images.now in
    let r = is_met f (length c.args.images.now) in
    let k = c.loop-start.start in
    let at_start = c.loop-start.invariant.marked k c.loop-start-test.true in
    elim c.if-not-seen-start.branch [
      | then-not-seen-start w ↦ grind (arith, first_counted, some_below_more)
      | else-not-seen-start w ↦
          let met : some_below (λ b. r b k) k ≡ true = sym at_start ∙ w.if-not-seen-start.false in
          record {
            counted = w.count-is ∙ c.loop-start.invariant.counted ∙ sym (later_not_counted r k met);
            marked = λ a la. ap (λ s. slice_index_or s a false) w.seen-is ∙ c.loop-start.invariant.marked a la
                ∙ sym (marked_already r (length c.args.images.now) k a (is_met-equivalence f (length c.args.images.now) c.requires.permutation)
                c.loop-start-test.true la met);
          }
    ]
