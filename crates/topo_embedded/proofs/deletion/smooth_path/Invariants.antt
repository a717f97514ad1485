use Rattle.std.proofs.Common.{ℕ}
use Rattle.topo_table.specs.Places.{values_in}
use Rattle.topo_embedded.specs.Opening.{IsOpened, IsSmoothedTo, mids_of}
use Rattle.topo_embedded.specs.Paths.{KeepsIds}
use Rattle.topo_embedded.proofs.deletion.smooth_path.Given as goal

abbrev pub ghost-leave_path : goal.ghost-leave_path
ghost-leave_path g a = g.rows

abbrev pub invariant-loop-i : goal.invariant-loop-i
invariant-loop-i g l = record {
  smoothed : (e : ℕ) (o : IsOpened g.rows (values_in l.fn.paths) e (mids_of l.path) l.fn.segments)
      → IsSmoothedTo (record { rows = g.rows; paths = o.set_out.paths }) e o.before l.fn.segments (mids_of l.path) l.i l.segments (values_in l.paths);
  kept : KeepsIds l.fn.paths l.paths;
}
