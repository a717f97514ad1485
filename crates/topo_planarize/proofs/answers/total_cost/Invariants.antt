use Rattle.std.proofs.Common.{◌≡◌, sum_by, take}
use Rattle.topo_planarize.specs.Answers.{cost_of}
use Rattle.topo_planarize.proofs.answers.total_cost.Given as goal

-- what those so far cost
abbrev pub invariant-loop-part : goal.invariant-loop-part
invariant-loop-part l = record {
  counted : l.total ≡ sum_by (cost_of l.prices) (take l.part-index l.parts);
}
