use Rattle.topo_map.proofs.LabelledAll.{IsPartlyLabelled}
use Rattle.topo_map.proofs.faces.label_faces.Given as goal

-- the faces of the halves so far are labelled, with no more labels than halves
abbrev pub invariant-loop-number : goal.invariant-loop-number
invariant-loop-number l = record { partly : IsPartlyLabelled l.initial.segments l.segments l.number l.unused }
