use Rattle.std.proofs.Common.{◌≡◌, drop}
use Rattle.topo_embedded.specs.Crossing.{subdivided_half}
use Rattle.topo_embedded.proofs.insertion.subdivided.Given as goal

abbrev pub invariant-loop-i : goal.invariant-loop-i
invariant-loop-i l = subdivided_half (drop l.i l.crossed) l.half ≡ subdivided_half l.crossed l.half
