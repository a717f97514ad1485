use Rattle.std.proofs.Common.{subst, sym}
use Rattle.topo_io.specs.Settings.{AnswersPrices}
use Rattle.topo_session.proofs.Entering.{opened_so}
use Rattle.topo_session.proofs.session.Session.open.Goals as goal

pub invariant_of-result : goal.invariant_of-result
invariant_of-result g c =
    subst (λ f. AnswersPrices (g.F.PriceFn.may_return f) c.args.opening.prices) (sym c.in-Ok.ensures.tariff)
    (c.from_table.ensures.own c.args.opening.prices c.in_ok-table.ensures.prices)

pub returns-in-Ok-clause-opened : goal.returns-in-Ok-clause-opened
returns-in-Ok-clause-opened g c =
    opened_so c.args.opening c.in-Ok.book c.in_ok-table.field-0.start c.in_ok-table.ensures.sound c.in_ok-table.ensures.rows
    c.in-Ok.ensures.start c.in-Ok.ensures.history c.in-Ok.ensures.picture
