use Rattle.std.proofs.Common.{[], ◌++◌, ◌∷◌}
use Rattle.std.proofs.lemmas.List.Elements.{All-push, All-same}
use Rattle.topo_route.specs.Names.{IsName}
use Rattle.topo_search.proofs.levels.Side.note.Goals as goal

pub returns : goal.returns
returns c g darts dart =
    All-same (IsName g) c.push.new.self.items (c.args.self.now.darts.items ++ c.args.dart ∷ []) c.in_ok-push.ensures.items
    (All-push (IsName g) c.args.self.now.darts.items c.args.dart darts dart)
