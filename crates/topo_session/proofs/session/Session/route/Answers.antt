use Rattle.std.proofs.Common.{IfOk, subst}
use Rattle.topo_session.specs.Standings.{IsRouteReply, Standing}
use Rattle.topo_session.proofs.Entering.{due_so}
use Rattle.topo_session.proofs.session.Session.route.Goals as goal

pub returns-clause-due : goal.returns-clause-due
returns-clause-due g c =
    subst (λ (s : Standing). IfOk c.due_reply.result (IsRouteReply s c.args.u c.args.v)) c.self.view_is
    (due_so (g.F.PriceFn.may_return c.self.inside.book.tariff) c.self.inside.limits c.self.inside.prices c.self.invariant
    c.self.inside.book c.args.u c.args.v c.due_reply.result c.due_reply.ensures.due)
