use Rattle.topo_map.proofs.LabelledAll.{AreBlankBelow}
use Rattle.topo_map.proofs.faces.unlabel.Given as goal

-- the halves so far have no label
abbrev pub invariant-loop-number : goal.invariant-loop-number
invariant-loop-number l = record { blank : AreBlankBelow l.initial.segments l.segments l.number }
