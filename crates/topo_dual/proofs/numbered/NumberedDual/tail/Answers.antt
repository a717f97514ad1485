use Rattle.topo_dual.proofs.HalfNumbers.{is_half, known, number_named, number_within, tail_told}
use Rattle.topo_dual.proofs.numbered.NumberedDual.tail.Goals as goal

pub half-requires : goal.half-requires
half-requires c = let n = known c.self.view_is c.self.invariant in number_within n c.args.dart (number_named n c.args.dart c.requires)

pub start_of-requires : goal.start_of-requires
start_of-requires c = let n = known c.self.view_is c.self.invariant in
    is_half n c.args.dart (number_named n c.args.dart c.requires) c.half.result c.half.ensures

pub returns : goal.returns
returns c = tail_told (known c.self.view_is c.self.invariant) c.args.dart c.requires c.half.result c.half.ensures c.start_of.result c.start_of.ensures
