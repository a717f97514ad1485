use Rattle.topo_map.proofs.Walked.{IsPaintedTo}
use Rattle.topo_map.proofs.faces.paint.Given as goal

-- where the walk is, and that what it has met is painted
abbrev pub invariant-loop-steps : goal.invariant-loop-steps
invariant-loop-steps l = record { walked : IsPaintedTo l.initial.segments l.segments l._steps l.start l.label l.at }
