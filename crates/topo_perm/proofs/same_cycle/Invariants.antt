use Rattle.std.proofs.Common.{◌≡◌, ◌<◌, false, length}
use Rattle.topo_core.specs.Cycles.{after, is_met, map_of}
use Rattle.topo_perm.proofs.same_cycle.Given as goal

-- where the walk is, and that it has not met b
abbrev pub invariant-loop-steps : goal.invariant-loop-steps
invariant-loop-steps l = record {
  place : l.at ≡ after (map_of l.images) l._steps l.a;
  within : l.at < length l.images;
  unmet : is_met (map_of l.images) l._steps l.a l.b ≡ false;
}
