use Rattle.std.proofs.Common.{◌≡◌, ℕ, ◌<◌, ◌||◌, false, length, slice_index_or}
use Rattle.topo_core.specs.Cycles.{after, is_met, map_of}
use Rattle.topo_perm.proofs.mark_cycle.Given as goal

-- where the walk is, and what it has marked
abbrev pub invariant-loop-steps : goal.invariant-loop-steps
invariant-loop-steps l = record {
  place : l.at ≡ after (map_of l.images) l._steps l.start;
  within : l.at < length l.images;
  marked : (a : ℕ) → a < length l.images
      → slice_index_or l.seen a false ≡ (is_met (map_of l.images) l._steps l.start a || slice_index_or l.initial.seen a false);
}
