use Rattle.std.proofs.Common.{◌≡◌, ◌<◌, slice_index, ℕ}
use Rattle.topo_route.specs.Names.{canonical, next_name}
use Rattle.topo_dual.proofs.lists.write_nexts.Given as goal

abbrev pub invariant-loop-dart : goal.invariant-loop-dart
invariant-loop-dart l = (i : ℕ) → i < l.dart → slice_index l.nexts i ≡ next_name (canonical l.embedded.rows) i
