use Rattle.std.proofs.Common.{◌≡◌, ◌∙◌, ap, arith, length}
use Rattle.std.proofs.lemmas.Bool.Decides.{nat_tests}
use Rattle.topo_core.specs.Picture.{darts}
use Rattle.topo_route.specs.Names.{Named}
use Rattle.topo_route.proofs.names.Canonical.{is_number, number_is}
use Rattle.topo_route.proofs.dual.has_number.Goals as goal

pub returns-clause-number : goal.returns-clause-number
returns-clause-number g c = grind (arith, nat_tests)

pub returns-clause-name : goal.returns-clause-name
returns-clause-name g c =
    let dual = c.args.dual.now in
    let whole : c.size.result ≡ length (darts (g.D.Dual.shows dual)) = c.size.ensures ∙ ap (λ (n : Named). n.size) (g.met.D.Dual.numbered dual) in (
      λ w. number_is (g.D.FaceGraph.named dual) (g.D.Dual.shows dual) (g.met.D.Dual.numbered dual)
          (g.met.D.FaceGraph.lawful dual) c.args.number (grind (arith, nat_tests)),
      λ name. let less = is_number (g.D.FaceGraph.named dual) (g.D.Dual.shows dual) (g.met.D.Dual.numbered dual)
          (g.met.D.FaceGraph.lawful dual) c.args.number name in grind (arith, nat_tests),
    )
