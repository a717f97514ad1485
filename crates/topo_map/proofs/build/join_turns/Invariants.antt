use Rattle.std.proofs.Common.{◌≡◌}
use Rattle.topo_map.specs.Building.{AreBlank, AreJoinedBelow}
use Rattle.topo_map.specs.Segments.{label_in}
use Rattle.topo_map.proofs.build.join_turns.Given as goal

-- the halves so far have their turns, and all the labels of their edges and none of a face
abbrev pub invariant-loop-place : goal.invariant-loop-place
invariant-loop-place l = record {
  joined : AreJoinedBelow l.segments l.halves l.turns l.place;
  labels : label_in l.segments ≡ label_in l.initial.segments;
  blank : AreBlank l.segments;
}
