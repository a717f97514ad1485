use Rattle.std.proofs.Common.{◌≡◌, take}
use Rattle.topo_session.proofs.vertices.edges_of.Given as goal

abbrev pub invariant-loop-position : goal.invariant-loop-position
invariant-loop-position l = l.edges.items ≡ take l.position l.around
