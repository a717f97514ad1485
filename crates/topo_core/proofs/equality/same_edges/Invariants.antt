use Rattle.std.proofs.Common.{◌≡◌, ℕ, ◌<◌, get_or, length}
use Rattle.topo_core.specs.declared.rows.EdgeRow.{EdgeRow}
use Rattle.topo_core.proofs.equality.same_edges.Given as goal

abbrev pub invariant-loop-i : goal.invariant-loop-i
invariant-loop-i l = record {
  as_long : length l.a ≡ length l.b;
  so_far : (k : ℕ) (d : EdgeRow) → k < l.i → get_or l.a k d ≡ get_or l.b k d;
}
