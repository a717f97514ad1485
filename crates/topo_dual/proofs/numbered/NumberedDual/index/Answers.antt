use Rattle.topo_dual.proofs.HalfNumbers.{found_number, found_within, known, not_found}
use Rattle.topo_dual.proofs.numbered.NumberedDual.index.Goals as goal

pub number-requires : goal.number-requires
number-requires c = found_within (known c.self.view_is c.self.invariant) c.args.dart c.in-Some.half c.in-Some.ensures

pub returns-in-Some : goal.returns-in-Some
returns-in-Some c = found_number (known c.self.view_is c.self.invariant) c.args.dart c.in-Some.half c.number.result c.in-Some.ensures c.number.ensures

pub returns-in-None : goal.returns-in-None
returns-in-None c = not_found (known c.self.view_is c.self.invariant) c.args.dart c.in-None.ensures
