use Rattle.std.proofs.Common.{◌≡◌, ◌≢◌, ℕ, suc, ◌<◌, length}
use Rattle.topo_core.specs.Cycles.{after, map_of}
use Rattle.topo_perm.proofs.laws.predecessor.Given as goal

-- where the walk is, and that it has not returned
abbrev pub invariant-loop-steps : goal.invariant-loop-steps
invariant-loop-steps l = record {
  place : l.before ≡ after (map_of l.images) l._steps l.i;
  within : l.before < length l.images;
  out : (k : ℕ) → k < l._steps → after (map_of l.images) (suc k) l.i ≢ l.i;
}
