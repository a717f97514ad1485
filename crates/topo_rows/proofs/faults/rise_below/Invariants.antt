use Rattle.std.proofs.Common.{◌≡◌, drop}
use Rattle.topo_core.specs.Items.{rises_below}
use Rattle.topo_rows.proofs.faults.rise_below.Given as goal

-- what is left rises if all does
abbrev pub invariant-loop-i : goal.invariant-loop-i
invariant-loop-i l = rises_below l.limit (drop l.i l.ids) ≡ rises_below l.limit l.ids
