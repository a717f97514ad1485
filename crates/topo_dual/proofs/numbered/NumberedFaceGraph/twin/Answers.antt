use Rattle.std.proofs.Common.{◌∙◌, sym}
use Rattle.topo_rows.specs.Recovering.{lawful_again}
use Rattle.topo_route.proofs.Interface.{canonical_below, canonical_twin}
use Rattle.topo_dual.proofs.numbered.NumberedFaceGraph.twin.Goals as goal

pub returns : goal.returns
returns c =
    let lawful = lawful_again c.args.self.now.rows c.args.self.now.lawful in
    c.twin_of.ensures ∙ sym (canonical_twin c.args.self.now.rows lawful c.args.dart (canonical_below c.args.self.now.rows lawful c.args.dart c.requires))
