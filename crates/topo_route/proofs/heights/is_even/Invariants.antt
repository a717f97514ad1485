use Rattle.std.proofs.Common.{◌≡◌, ◌<◌, ℕ}
use Rattle.std.specs.Prelude.{slice_index}
use Rattle.topo_route.specs.Numbers.{next_of}
use Rattle.topo_route.proofs.heights.is_even.Given as goal

abbrev pub invariant-loop-dart : goal.invariant-loop-dart
invariant-loop-dart g l = (k : ℕ) → k < l.dart → slice_index l.heights (next_of (g.D.Dual.shows l.dual) k) ≡ slice_index l.heights k
