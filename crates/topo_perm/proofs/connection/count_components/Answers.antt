use Rattle.std.proofs.Common.{length, arith, subst, Fits, w32}
use Rattle.topo_core.specs.Cycles.{map_of}
use Rattle.topo_perm.proofs.permutations.Counting.{counted_none, counted_closed, counted_new, counted_old, counted_most, counted_all}
use Rattle.topo_perm.proofs.permutations.Points.{HasBefore, before_of}
use Rattle.topo_perm.proofs.connection.count_components.Goals as goal
use Rattle.topo_perm.proofs.connection.count_components.Goals.{then-not-seen-start, else-not-seen-start}

pub loop-start-init : goal.loop-start-init
loop-start-init c = counted_none (map_of c.args.images.now)
    (length c.args.images.now) c.args.seen.now c.requires.permutation c.requires.even c.requires.none_seen

pub overflow_add-count : goal.overflow_add-count
overflow_add-count c = omega (arith, counted_most (map_of c.args.images.now) (length c.args.images.now) _ _ _ _ c.loop-start.invariant)

-- a dart is an image, and an image is a u32
pub overflow_cast-start : goal.overflow_cast-start
overflow_cast-start c =
    let f = map_of c.args.images.now in
    let n = length c.args.images.now in
    let before : HasBefore f n c.loop-start.start = before_of f n c.loop-start.start c.requires.permutation (omega arith) in
    subst (Fits w32) before.leads (c.type_inv.images before.place)

pub reach-found-requires-clause-closed : goal.reach-found-requires-clause-closed
reach-found-requires-clause-closed c =
    counted_closed (map_of c.args.images.now) (length c.args.images.now) _ _ _ _ c.requires.permutation c.requires.even (omega arith) c.loop-start.invariant

pub loop-start-preserved : goal.loop-start-preserved
loop-start-preserved c = grind (arith, then-not-seen-start, counted_new, else-not-seen-start, counted_old)

pub returns : goal.returns
returns c = counted_all (map_of c.args.images.now) (length c.args.images.now) _ _ _ _ c.loop-start.invariant (omega arith)
