use Rattle.std.proofs.Common.{subst, sym}
use Rattle.topo_route.specs.Names.{IsName, canonical}
use Rattle.topo_dual.proofs.frozen.FrozenFaceGraph.precedes.Goals as goal

pub precedes-requires-clause-dart_there : goal.precedes-requires-clause-dart_there
precedes-requires-clause-dart_there c = subst (λ rows. IsName (canonical rows) c.args.dart) (sym c.as_numbered.ensures.rows) c.requires.dart_there

pub precedes-requires-clause-other_there : goal.precedes-requires-clause-other_there
precedes-requires-clause-other_there c = subst (λ rows. IsName (canonical rows) c.args.other) (sym c.as_numbered.ensures.rows) c.requires.other_there
