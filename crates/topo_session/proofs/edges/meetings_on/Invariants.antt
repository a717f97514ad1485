use Rattle.std.proofs.Common.{◌≡◌, take}
use Rattle.topo_session.specs.Questions.{meetings_on}
use Rattle.topo_session.proofs.edges.meetings_on.Given as goal

abbrev pub invariant-loop-crossing : goal.invariant-loop-crossing
invariant-loop-crossing l = l.found.items ≡ meetings_on l.rows l.e (take l.crossing-index l.crossings)
