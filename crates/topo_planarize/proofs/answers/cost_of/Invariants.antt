use Rattle.std.proofs.Common.{◌≡◌, sum_by, take}
use Rattle.topo_planarize.specs.Answers.{cost_at}
use Rattle.topo_planarize.proofs.answers.cost_of.Given as goal

-- what those so far cost
abbrev pub invariant-loop-crossing : goal.invariant-loop-crossing
invariant-loop-crossing l = record {
  counted : l.cost ≡ sum_by (cost_at l.prices l.part.rows) (take l.crossing-index l.crossing-items);
}
