use Rattle.std.proofs.Common.{[], ◌++◌, ◌∷◌}
use Rattle.std.proofs.lemmas.List.Elements.{All-push, All-same}
use Rattle.topo_route.specs.Names.{IsName}
use Rattle.topo_search.proofs.levels.back_from.Goals as goal

pub loop-steps-preserved : goal.loop-steps-preserved
loop-steps-preserved c g side crossed =
    let dart = c.in-Some.ensures g (All-same (IsName g) c.deref.result.now c.args.side.now.darts.items c.deref.ensures.value side) in
    All-same (IsName g) c.push.new.self.items (c.loop-steps.crossed.items ++ c.in-Some.dart ∷ []) c.in_ok-push.ensures.items
    (All-push (IsName g) c.loop-steps.crossed.items c.in-Some.dart (c.loop-steps.invariant g side crossed) dart)
