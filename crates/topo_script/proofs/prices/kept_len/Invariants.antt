use Rattle.std.proofs.Common.{◌≡◌, ◌≤◌, take}
use Rattle.topo_script.specs.Prices.{without_ones}
use Rattle.topo_script.proofs.prices.kept_len.Given as goal

abbrev pub invariant-loop-i : goal.invariant-loop-i
invariant-loop-i l = (l.kept ≤ l.i) × (take l.kept l.prices ≡ without_ones (take l.i l.prices))
