use Rattle.std.proofs.Common.{◌≡◌, map, take}
use Rattle.topo_session.specs.Questions.{end_at}
use Rattle.topo_session.proofs.vertices.ends_at.Given as goal

abbrev pub invariant-loop-e : goal.invariant-loop-e
invariant-loop-e l = l.ends.items ≡ map (end_at l.rows l.v) (take l.e-index l.edges)
