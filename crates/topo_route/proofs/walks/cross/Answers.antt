use Rattle.std.proofs.Common.{◌∙◌, sym, subst}
use Rattle.std.proofs.lemmas.Bool.{false≢true}
use Rattle.topo_core.specs.declared.darts.Dart.{Dart}
use Rattle.topo_price.specs.Prices.{prices_of}
use Rattle.topo_route.specs.Numbers.{CannotPay}
use Rattle.topo_route.proofs.names.Canonical.{lawful_shown}
use Rattle.topo_route.proofs.names.Numbers.{twin_dart}
use Rattle.topo_route.proofs.names.Walking.{crossed_to, no_dart_there, other_face}
use Rattle.topo_route.proofs.walks.cross.Goals as goal

pub returns-then-not-same_face : goal.returns-then-not-same_face
returns-then-not-same_face g c =
    let rows = g.D.Dual.shows c.args.dual.now in
    other_face (prices_of (g.F.PriceFn.may_return c.args.tariff.now)) rows (lawful_shown (g.met.D.Dual.numbered c.args.dual.now)
    (g.met.D.FaceGraph.lawful c.args.dual.now)) c.args.at c.in-Some.number c.args.left c.args.dart c.requires c.in-Some.ensures.2
    (λ same. false≢true (sym c.if-not-same_face.true ∙ c.same_face.ensures.1 same))

pub returns-in-Some-pay : goal.returns-in-Some-pay
returns-in-Some-pay g c =
    let rows = g.D.Dual.shows c.args.dual.now in
    let lawful = lawful_shown (g.met.D.Dual.numbered c.args.dual.now) (g.met.D.FaceGraph.lawful c.args.dual.now) in
    crossed_to (prices_of (g.F.PriceFn.may_return c.args.tariff.now))
    rows lawful c.args.left c.in-Some-pay.rest
    c.requires c.in-Some.ensures.0 c.in-Some.ensures.1 c.across.ensures.twin c.across.ensures.within (c.same_face.ensures.0 c.if-not-same_face.false)
    c.in-Some-pay.ensures (twin_dart rows lawful c.in-Some.number c.in-Some.ensures.0)

pub returns-in-None-pay : goal.returns-in-None-pay
returns-in-None-pay g c same =
    let rows = g.D.Dual.shows c.args.dual.now in
    let Cannot = λ (d : Dart). CannotPay (prices_of (g.F.PriceFn.may_return c.args.tariff.now)) rows d c.args.left in
    subst Cannot c.in-Some.ensures.1 c.in-None-pay.ensures

pub returns-in-None : goal.returns-in-None
returns-in-None g c = no_dart_there (prices_of (g.F.PriceFn.may_return c.args.tariff.now)) (g.D.Dual.shows c.args.dual.now)
    (lawful_shown (g.met.D.Dual.numbered c.args.dual.now) (g.met.D.FaceGraph.lawful c.args.dual.now))
    c.args.at c.args.left c.args.dart c.requires c.in-None.ensures
