use Rattle.std.proofs.Common.{◌≡◌, take}
use Rattle.std.specs.List.{All}
use Rattle.topo_embedded.specs.Crossing.{IsMarked, crossed_darts}
use Rattle.topo_embedded.proofs.embedded.Embedded.crossed_of.Given as goal

abbrev pub invariant-loop-i : goal.invariant-loop-i
invariant-loop-i l = record {
  marked : All (IsMarked l.self) l.crossed.items;
  darts : crossed_darts l.crossed.items ≡ take l.i l.across;
}
