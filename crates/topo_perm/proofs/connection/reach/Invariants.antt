use Rattle.std.proofs.Common.{length}
use Rattle.topo_core.specs.Cycles.{map_of}
use Rattle.topo_perm.proofs.permutations.Search.{Searched}
use Rattle.topo_perm.proofs.connection.reach.Given as goal

abbrev pub invariant-loop-done : goal.invariant-loop-done
invariant-loop-done l = Searched (map_of l.images) (length l.images) l.fn.seen l.start l.before l.seen l.order l.found l.done
