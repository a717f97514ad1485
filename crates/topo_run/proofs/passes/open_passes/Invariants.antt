use Rattle.std.proofs.Common.{◌≡◌, ◌≤◌, length}
use Rattle.topo_core.specs.declared.limits.TheConstants.{MAX_PASSES}
use Rattle.topo_run.specs.Working.{AreOpened}
use Rattle.topo_run.proofs.passes.open_passes.Given as goal

abbrev pub invariant-loop-i : goal.invariant-loop-i
invariant-loop-i g l = record {
  opened : AreOpened l.passes.items;
  count : length l.passes.items ≡ l._i;
  given : l.service.given ≡ l._i;
  seats : l._i ≤ MAX_PASSES;
  same : l.service.tariff ≡ l.fn.service.tariff;
}
