use Rattle.topo_table.specs.Places.{values_in}
use Rattle.topo_embedded.specs.Bounds.{BoundsState, GoesOn}
use Rattle.topo_embedded.specs.Crossing.{AreSplitFrom}
use Rattle.topo_embedded.specs.Paths.{KeepsIds}
use Rattle.topo_embedded.proofs.insertion.split_crossed.Given as goal

abbrev pub invariant-loop-n : goal.invariant-loop-n
invariant-loop-n g l = record {
  split : AreSplitFrom g.p l.fn.segments l.segments l.fn.crossed l.crossed l.n (values_in l.paths);
  kept : KeepsIds l.fn.paths l.paths;
  bounds : (b : BoundsState) → GoesOn l.fn.segments l.segments b b;
}

abbrev pub decreases-loop-n : goal.decreases-loop-n
decreases-loop-n g l = l.n
