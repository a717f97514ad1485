use Rattle.std.specs.Prelude.{length}
use Rattle.topo_search.proofs.simple.+is_simple.Given as goal

abbrev pub decreases-is_simple : goal.decreases-is_simple
decreases-is_simple g l = length l.crossed.now
