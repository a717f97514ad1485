use Rattle.std.proofs.Common.{◌≡◌, Some, ℕ, length}
use Rattle.std.specs.Prelude.{slice_get}
use Rattle.topo_core.specs.Picture.{edge_row}
use Rattle.topo_core.specs.declared.rows.EdgeRow.{EdgeRow}
use Rattle.topo_embedded.proofs.kinds.Kinds.of.Given as goal

abbrev pub invariant-loop-edge : goal.invariant-loop-edge
invariant-loop-edge l = record {
  many : length l.kinds.items ≡ l.edge;
  known : (e kind : ℕ) (row : EdgeRow) → slice_get l.kinds.items e ≡ Some kind → edge_row l.rows e ≡ Some row → row.kind ≡ kind;
}
