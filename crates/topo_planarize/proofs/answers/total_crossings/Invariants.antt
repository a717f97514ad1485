use Rattle.std.proofs.Common.{◌≡◌, length, sum_by, take}
use Rattle.topo_planarize.proofs.answers.total_crossings.Given as goal

-- how many those so far have
abbrev pub invariant-loop-part : goal.invariant-loop-part
invariant-loop-part l = record {
  counted : l.total ≡ sum_by (λ part. length part.rows.crossings) (take l.part-index l.parts);
}
