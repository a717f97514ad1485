use Rattle.std.proofs.Common.{◌≡◌, ◌-◌, ◌≤◌, List, ap, arith, length, subst, take, ◌∙◌}
use Rattle.topo_core.specs.declared.calls.Entry.{Entry}
use Rattle.topo_core.specs.History.{Replays}
use Rattle.topo_price.specs.Prices.{prices_of}
use Rattle.topo_session.specs.Standings.{Standing, TakesBack, standing_of, undone}
use Rattle.topo_session.proofs.Entering.{taken_so}
use Rattle.topo_session.proofs.session.Session.undo.Goals as goal

pub returns-clause-undone : goal.returns-clause-undone
returns-clause-undone g c =
    let s = c.self.inside in
    let long = ap (λ (h : List Entry). length h) c.history-kept.ensures.entries in
    let cut = c.in_ok-take_back.ensures.history ∙ ap (λ n. take (n - c.args.entries) s.book.history) long in
    let there : c.args.entries ≤ length s.book.history = omega (arith, c.if-kept-entries.false, long) in
    let n = c.take_back.new.self in
    let way = subst (λ t. Replays (prices_of (g.F.PriceFn.may_return t)) n.start.limits n.start.rows n.history n.picture.rows)
    c.in_ok-take_back.ensures.same_book.0 c.in_ok-take_back.ensures.legal.replayed in
    subst (λ (old : Standing). TakesBack c.args.entries old (standing_of s.limits s.prices n)
    × (c.undone.result ≡ undone c.args.entries n.picture.rows)) c.self.view_is (
      taken_so (g.F.PriceFn.may_return s.book.tariff) s.limits s.prices c.self.invariant s.book n c.args.entries there cut way
          c.in_ok-take_back.ensures.same_book c.in_ok-take_back.ensures.legal.same_limits,
      c.undone.ensures,
    )
