use Rattle.std.specs.Prelude.{length}
use Rattle.topo_search.proofs.simple.+leaves_for_good.Given as goal

abbrev pub decreases-leaves_for_good : goal.decreases-leaves_for_good
decreases-leaves_for_good g l = length l.crossed.now
