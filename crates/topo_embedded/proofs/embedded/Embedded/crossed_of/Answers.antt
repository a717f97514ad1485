use Rattle.std.proofs.Common.{◌++◌, [], ap, List, map, subst, sym, take, ◌∙◌, ◌∷◌}
use Rattle.std.specs.List.{All}
use Rattle.std.proofs.lemmas.List.{map-append, take_more}
use Rattle.std.proofs.lemmas.List.Elements.{All-push}
use Rattle.topo_core.specs.declared.darts.Dart.{Dart}
use Rattle.topo_embedded.specs.declared.padding.Crossed.{Crossed}
use Rattle.topo_embedded.specs.Crossing.{IsMarked}
use Rattle.topo_embedded.proofs.embedded.Embedded.crossed_of.Goals as goal

pub loop-i-preserved : goal.loop-i-preserved
loop-i-preserved c =
    let across = c.args.across.now in
    let before = c.loop-i.crossed.items in
    let dart : Crossed → Dart = λ d. d.dart in
    record {
      marked = subst (All (IsMarked c.args.self.now)) (sym c.in_ok-push.ensures.items)
          (All-push (IsMarked c.args.self.now) before c.marked.result c.loop-i.invariant.marked c.marked.ensures.marked);
      darts = ap (map dart) c.in_ok-push.ensures.items ∙ map-append dart before (c.marked.result ∷ [])
          ∙ ap (λ (ds : List Dart). ds ++ c.marked.result.dart ∷ []) c.loop-i.invariant.darts
          ∙ ap (λ (d : Dart). take c.loop-i.i across ++ d ∷ []) (c.marked.ensures.dart ∙ c.index-across-i.is)
          ∙ sym (take_more across c.loop-i.i c.index-across-i.result c.loop-i-test.true);
    }
