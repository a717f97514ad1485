use Rattle.std.proofs.Common.{◌≡◌, ◌<◌, slice_index, ℕ}
use Rattle.topo_dual.proofs.lists.write_numbers.Given as goal

abbrev pub invariant-loop-number : goal.invariant-loop-number
invariant-loop-number l = (i : ℕ) → i < l.number → slice_index l.numbers (slice_index l.halves i) ≡ i
