use Rattle.std.proofs.Common.{arith}
use Rattle.std.proofs.lemmas.Bool.Decides.{nat_tests}
use Rattle.topo_rows.specs.Recovering.{lawful_again}
use Rattle.topo_route.proofs.Interface.{canonical_order}
use Rattle.topo_dual.proofs.numbered.NumberedFaceGraph.precedes.Goals as goal

pub returns : goal.returns
returns c =
    let order = canonical_order c.args.self.now.rows (lawful_again c.args.self.now.rows c.args.self.now.lawful)
    c.args.dart c.args.other c.requires.dart_there c.requires.other_there in
    (λ w. order.0 (grind (arith, nat_tests)), λ less. let is = order.1 less in grind (arith, nat_tests))
