use Rattle.topo_embedded.specs.Cutting.{IsOpenedOn}
use Rattle.topo_embedded.specs.Halves.{RowsWithPaths}
use Rattle.topo_embedded.proofs.halves.FaceWalks.{InStep}
use Rattle.topo_embedded.proofs.cuts.has_one_face.Given as goal

-- where the two walks are, and that neither has met the start of the other
abbrev pub invariant-loop-steps : goal.invariant-loop-steps
invariant-loop-steps l = (p : RowsWithPaths) (o : IsOpenedOn p l.segments l.e l.segment l.path)
    → InStep p l.segments l.e l.segment l.path o l.left l.right l._steps
