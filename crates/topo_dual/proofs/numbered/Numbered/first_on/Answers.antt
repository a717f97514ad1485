use Rattle.topo_core.specs.Picture.{darts, index_of}
use Rattle.topo_core.specs.Systems.{has_dart}
use Rattle.topo_dual.proofs.DartNumbers.{first_of}
use Rattle.topo_dual.proofs.HalfNumbers.{some_if}
use Rattle.topo_dual.proofs.numbered.Numbered.first_on.Goals as goal

pub returns : goal.returns
returns c =
    let rows = c.args.self.now.rows in
    let first = first_of c.args.edge in
    some_if (has_dart (darts rows) first) c.in-Some.first (index_of rows first) c.requires c.in-Some.ensures
