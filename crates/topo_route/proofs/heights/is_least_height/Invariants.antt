use Rattle.topo_route.proofs.plans.Tests.{LeastBefore}
use Rattle.topo_route.proofs.heights.is_least_height.Given as goal

abbrev pub invariant-loop-position : goal.invariant-loop-position
invariant-loop-position g l = LeastBefore (g.D.Dual.shows l.dual) l.u l.heights l.price l.found l.position
