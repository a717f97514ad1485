use Rattle.std.proofs.Common.{subst, sym}
use Rattle.topo_rows.specs.Recovering.{lawful_again}
use Rattle.topo_route.specs.Names.{IsName, canonical}
use Rattle.topo_route.proofs.Interface.{twin_is}
use Rattle.topo_dual.specs.NumberedRows.{names_again}
use Rattle.topo_dual.proofs.numbered.NumberedFaceGraph.step.Goals as goal

pub face-requires : goal.face-requires
face-requires c =
    let rows = c.args.self.now.rows in
    let lawful = c.args.self.now.lawful in
    subst (IsName (canonical rows)) (sym c.twin.ensures)
    (twin_is (canonical rows) (lawful_again rows lawful) (names_again rows lawful) c.args.dart c.requires)
