use Rattle.topo_dual.proofs.HalfNumbers.{read_next, read_within}
use Rattle.topo_dual.proofs.numbered.NumberedFaceGraph.next.Goals as goal

pub next-requires : goal.next-requires
next-requires c = read_within c.self.view_is c.self.invariant c.args.dart c.requires

pub returns : goal.returns
returns c = read_next c.self.view_is c.self.invariant c.args.dart c.requires c.next.result c.next.ensures
