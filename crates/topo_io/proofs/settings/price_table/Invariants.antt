use Rattle.std.proofs.Common.{◌≡◌, ℕ, ◌<◌, None, get_or, length}
use Rattle.topo_io.specs.Settings.{price_of_kind}
use Rattle.topo_io.proofs.settings.price_table.Given as goal
use Rattle.topo_core.specs.declared.rows.TheConstants.{KINDS}

abbrev pub invariant-loop-kind : goal.invariant-loop-kind
invariant-loop-kind l = record {
  all : length l.table ≡ KINDS;
  so_far : (k : ℕ) → k < l.kind → get_or l.table k None ≡ price_of_kind l.prices k;
}
