use Rattle.std.proofs.Common.{◌≡◌, ℕ, ◌<◌, List, get_or, length}
use Rattle.topo_core.proofs.equality.same_rotations.Given as goal

abbrev pub invariant-loop-v : goal.invariant-loop-v
invariant-loop-v l = record {
  as_long : length l.a ≡ length l.b;
  so_far : (k : ℕ) (d : List ℕ) → k < l.v → get_or l.a k d ≡ get_or l.b k d;
}
