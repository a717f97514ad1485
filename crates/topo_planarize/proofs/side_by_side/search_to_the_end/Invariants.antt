use Rattle.topo_planarize.specs.Ways.{TellsWay}
use Rattle.topo_planarize.proofs.side_by_side.search_to_the_end.Given as goal

-- what was told so far
abbrev pub invariant-loop : goal.invariant-loop
invariant-loop g l = record { way : TellsWay l.terms.is_told (g.E.Write.contents l.initial.told) (g.E.Write.contents l.told) }
