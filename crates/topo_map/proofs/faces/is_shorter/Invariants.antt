use Rattle.std.proofs.Common.{◌≡◌, true}
use Rattle.topo_map.specs.Segments.{holds}
use Rattle.topo_map.proofs.faces.is_shorter.Given as goal

abbrev pub invariant-loop-steps : goal.invariant-loop-steps
invariant-loop-steps l = record {
  live : holds l.segments l.at ≡ true;
  live_other : holds l.segments l.other ≡ true;
}
