use Rattle.topo_perm.proofs.permutations.Lists.{must_return}
use Rattle.topo_core.specs.Cycles.{map_of}
use Rattle.std.proofs.Common.{length, ◌≤◌, arith}
use Rattle.topo_perm.proofs.laws.predecessor.Goals as goal

pub returns-clause-leads : goal.returns-clause-leads
returns-clause-leads c =
    let all : length c.args.images.now ≤ c.loop-steps._steps = omega arith in
    absurd (must_return (map_of c.args.images.now) (length c.args.images.now) c.args.i c.requires.permutation c.requires.within
    (λ k l. c.loop-steps.invariant.out k (omega arith)))
