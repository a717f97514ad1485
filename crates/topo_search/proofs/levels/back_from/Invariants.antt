use Rattle.std.specs.Prelude.{All}
use Rattle.topo_route.specs.Names.{IsName, Named}
use Rattle.topo_search.proofs.levels.back_from.Given as goal

-- where all were named they still are
abbrev pub invariant-loop-steps : goal.invariant-loop-steps
invariant-loop-steps l = (g : Named) → All (IsName g) l.side.darts.items → All (IsName g) l.initial.crossed.items → All (IsName g) l.crossed.items
