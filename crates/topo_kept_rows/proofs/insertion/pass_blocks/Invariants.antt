use Rattle.std.proofs.Common.{◌≡◌, ◌≤◌, ◌+◌, ◌-◌, drop, length}
use Rattle.topo_kept_rows.specs.Inserting.{segment_end}
use Rattle.topo_kept_rows.proofs.insertion.pass_blocks.Given as goal

abbrev pub invariant-loop-place : goal.invariant-loop-place
invariant-loop-place l = record {
  within : l.place ≤ length l.path;
  same : l.place + segment_end l.first l.left (drop l.place l.path) ≡ segment_end l.first l.segment l.path;
}

abbrev pub decreases-loop-place : goal.decreases-loop-place
decreases-loop-place l = length l.path - l.place
