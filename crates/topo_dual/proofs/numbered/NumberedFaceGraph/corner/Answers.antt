use Rattle.topo_dual.proofs.HalfNumbers.{corner_number, corner_within, known, no_corner}
use Rattle.topo_dual.proofs.numbered.NumberedFaceGraph.corner.Goals as goal

pub number-requires : goal.number-requires
number-requires c = corner_within (known c.self.view_is c.self.invariant) c.args.v c.args.position c.in-Some.half c.in-Some.ensures

pub returns-in-Some : goal.returns-in-Some
returns-in-Some c = corner_number (known c.self.view_is c.self.invariant)
    c.args.v c.args.position c.in-Some.half c.number.result c.in-Some.ensures c.number.ensures

pub returns-in-None : goal.returns-in-None
returns-in-None c = no_corner (known c.self.view_is c.self.invariant) c.args.v c.args.position c.in-None.ensures
