use Rattle.topo_io.proofs.Interface.{own_prices}
use Rattle.topo_limits.proofs.lists.report_by_table.Goals as goal

pub report_by-requires-clause-own : goal.report_by-requires-clause-own
report_by-requires-clause-own g c κs within = own_prices _ c.args.script.now.prices c.args.table c.requires (λ facts n h. h) (λ facts n h. h)
