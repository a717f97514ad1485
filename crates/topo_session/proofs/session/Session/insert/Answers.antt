use Rattle.topo_core.specs.declared.calls.Call.TheVariants.{Insert}
use Rattle.topo_session.proofs.Entering.{answered_so}
use Rattle.topo_session.proofs.session.Session.insert.Goals as goal

pub returns : goal.returns
returns g c =
    let s = c.self.inside in
    answered_so g.F.PriceFn.may_return s.limits s.prices c.args.self.now s.book c.insert.new.self c.self.invariant c.self.view_is c.args.caller
    (Insert c.args.u c.args.v c.args.kind) c.insert.result c.insert.ensures
