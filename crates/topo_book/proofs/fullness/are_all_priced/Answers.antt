use Rattle.std.proofs.Common.{◌≡◌, Some, IfSome, ap, subst, ◌∙◌, arith}
use Rattle.topo_core.specs.declared.rows.Facts.{Facts}
use Rattle.topo_price.specs.Prices.{IsPriceOf, prices_of}
use Rattle.topo_book.proofs.UncrossedRoutes.{one_kind_more}
use Rattle.topo_book.proofs.fullness.are_all_priced.Goals as goal

pub loop-kind-init : goal.loop-kind-init
loop-kind-init g c = λ facts low. absurd (omega arith)

pub loop-kind-preserved : goal.loop-kind-preserved
loop-kind-preserved g c =
    let price = prices_of (g.F.PriceFn.may_return c.args.tariff.now) in
    one_kind_more price c.loop-kind.kind c.in-Some-Some.field-0-0 c.loop-kind.invariant
    (subst (λ o. IfSome o (λ answer. (facts : Facts) → facts.kind ≡ c.loop-kind.kind → IsPriceOf price facts answer))
    (c.in-Some-Some.is ∙ ap (λ x. Some x) c.in-Some-Some.field-0-is) c.price_of_kind.ensures.price)

pub returns : goal.returns
returns g c = λ always facts. let known = facts.known_kind in let all = c.loop-kind-test.false in c.loop-kind.invariant facts (omega arith)
