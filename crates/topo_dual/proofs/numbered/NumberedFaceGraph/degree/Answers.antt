use Rattle.std.proofs.Common.{arith}
use Rattle.topo_core.specs.declared.rows.Rows.{Rows}
use Rattle.topo_rows.specs.Recovering.{well_formed_again}
use Rattle.topo_rows.proofs.Interface.{darts_total, degree_most}
use Rattle.topo_dual.proofs.numbered.NumberedFaceGraph.degree.Goals as goal

pub overflow_cast-result : goal.overflow_cast-result
overflow_cast-result c =
    let rows : Rows = c.self.inside.embedded.now.rows in
    let most = degree_most rows (well_formed_again rows c.self.inside.lawful) c.self.invariant.named.few_vertices c.args.v in
    let few = c.self.invariant.named.few_darts in
    grind (arith, darts_total)
