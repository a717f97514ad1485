use Rattle.std.proofs.Common.{◌≡◌, ℕ, ◌<◌, false, length, slice_index_or}
use Rattle.topo_core.specs.Cycles.{count_below, is_first, is_met, map_of, some_below}
use Rattle.topo_perm.proofs.count_cycles.Given as goal

-- the first numbers of their cycles so far, and which cycles are marked
abbrev pub invariant-loop-start : goal.invariant-loop-start
invariant-loop-start l = record {
  counted : l.count ≡ count_below (is_first (is_met (map_of l.images) (length l.images))) l.start;
  marked : (a : ℕ) → a < length l.images → slice_index_or l.seen a false ≡ some_below (λ b. is_met (map_of l.images) (length l.images) b a) l.start;
}
