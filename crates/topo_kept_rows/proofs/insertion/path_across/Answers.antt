use Rattle.std.proofs.Common.{arith, ◌∙◌, ◌+◌, ◌∷◌, ◌++◌, [], ap, sym}
use Rattle.std.proofs.lemmas.List.{take_all}
use Rattle.topo_core.specs.declared.darts.Dart.{Dart}
use Rattle.topo_core.specs.declared.darts.Way.TheVariants.{Forward}
use Rattle.topo_kept_rows.proofs.rows.CrossedPaths.{numbered_step}
use Rattle.topo_kept_rows.proofs.insertion.path_across.Goals as goal

any_dart : Dart
any_dart = record { edge = 0; seg = 0; way = Forward }

pub loop-i-preserved : goal.loop-i-preserved
loop-i-preserved c =
    c.in_ok-push.ensures.items
    ∙ ap (λ path. path ++ (c.args.first + c.loop-i.i) ∷ []) c.loop-i.invariant
    ∙ sym (numbered_step (λ x. x.0) c.args.first c.args.darts.now c.loop-i.i any_dart c.loop-i-test.true)

pub returns : goal.returns
returns c = grind (arith, take_all)
