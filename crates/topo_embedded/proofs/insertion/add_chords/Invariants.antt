use Rattle.topo_embedded.specs.Bounds.{GoesOn}
use Rattle.topo_embedded.specs.Crossing.{AreChordsAddedFrom}
use Rattle.topo_embedded.proofs.insertion.add_chords.Given as goal

abbrev pub invariant-loop-n : goal.invariant-loop-n
invariant-loop-n l = record {
  added : AreChordsAddedFrom l.fn.segments l.segments l.crossed l.n l.to l.fn.new.end l.edge l.line;
  bounds : GoesOn l.fn.segments l.segments l.fn.bounds l.bounds;
}

abbrev pub decreases-loop-n : goal.decreases-loop-n
decreases-loop-n l = l.n
