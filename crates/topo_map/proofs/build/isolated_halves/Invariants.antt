use Rattle.std.proofs.Common.{◌≡◌, ◌+◌, ◌*◌, ◌≤◌, length}
use Rattle.topo_map.specs.Building.{AreAlone, AreBlank}
use Rattle.topo_map.specs.Rotation.{AreLabelled}
use Rattle.topo_map.specs.Segments.{label_in, room_of}
use Rattle.topo_map.proofs.build.isolated_halves.Given as goal

abbrev pub invariant-loop-segment : goal.invariant-loop-segment
invariant-loop-segment l = record {
  size : length l.halves.items ≡ 2 * l.segment;
  alone : AreAlone l.segments l.halves.items;
  labels : AreLabelled l.edges l.halves.items (label_in l.segments);
  blank : AreBlank l.segments;
  room : length l.edges ≤ room_of l.segments + l.segment;
}
