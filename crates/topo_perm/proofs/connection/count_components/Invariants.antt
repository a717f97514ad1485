use Rattle.std.proofs.Common.{length}
use Rattle.topo_core.specs.Cycles.{map_of}
use Rattle.topo_perm.proofs.permutations.Counting.{Counted}
use Rattle.topo_perm.proofs.connection.count_components.Given as goal

abbrev pub invariant-loop-start : goal.invariant-loop-start
invariant-loop-start l = Counted (map_of l.images) (length l.images) l.seen l.found l.count l.start
