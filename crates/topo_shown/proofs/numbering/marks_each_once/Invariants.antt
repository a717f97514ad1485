use Rattle.std.proofs.Common.{◌≡◌, ◌<◌, ℕ, true, false, length, slice_index, slice_index_or}
use Rattle.topo_shown.proofs.numbering.marks_each_once.Given as goal

-- the numbers so far are below the length, are those that are marked, and none of them stood twice
abbrev pub invariant-loop-place : goal.invariant-loop-place
invariant-loop-place l = record {
  size : length l.seen ≡ length l.list;
  within : (j : ℕ) → j < l.place → slice_index l.list j < length l.list;
  marked : (j : ℕ) → j < l.place → slice_index_or l.seen (slice_index l.list j) false ≡ true;
  known : (a : ℕ) → slice_index_or l.seen a false ≡ true → (j : ℕ) × (j < l.place) × (slice_index l.list j ≡ a);
  apart : (a b : ℕ) → a < l.place → b < l.place → slice_index l.list a ≡ slice_index l.list b → a ≡ b;
}
