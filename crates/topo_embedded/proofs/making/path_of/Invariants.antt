use Rattle.std.proofs.Common.{◌+◌}
use Rattle.topo_embedded.specs.Making.{IsPathOf}
use Rattle.topo_embedded.proofs.making.path_of.Given as goal

abbrev pub invariant-loop-i : goal.invariant-loop-i
invariant-loop-i l = IsPathOf l.halves (l.begin + 2) l.i l.others.items
