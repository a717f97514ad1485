use Rattle.std.proofs.Common.{ℕ}
use Rattle.topo_embedded.specs.Opening.{IsOpenTo, IsSetOut}
use Rattle.topo_table.specs.Places.{values_in}
use Rattle.topo_embedded.proofs.deletion.open_path.Given as goal

abbrev pub ghost-midpoint : goal.ghost-midpoint
ghost-midpoint g a = g.rows

abbrev pub invariant-loop-i : goal.invariant-loop-i
invariant-loop-i g l = (e : ℕ) (o : IsSetOut g.rows (values_in l.paths) e l.fn.path l.fn.segments)
    → IsOpenTo (record { rows = g.rows; paths = o.paths }) e l.fn.segments l.i l.segments l.path
