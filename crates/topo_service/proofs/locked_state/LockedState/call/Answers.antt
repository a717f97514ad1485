use Rattle.std.proofs.Common.{◌≡◌, length, Option, IfSome, sym, ap, ◌∙◌, subst, arith, true, is_some}
use Rattle.topo_core.specs.History.{is_accepted}
use Rattle.topo_rows.specs.Shown.{IsPicture, Shown}
use Rattle.topo_book.specs.Books.{picture_after}
use Rattle.topo_service.proofs.Versions.{copied_lawful, copied_there, if_some, named_step, version_ready, versions_length}
use Rattle.topo_service.proofs.locked_state.LockedState.call.Goals as goal

pub show-requires-clause-room : goal.show-requires-clause-room
show-requires-clause-room g c = omega (arith, ap length c.self.invariant.3, versions_length c.self.inside.book.history, c.prepare_call.ensures.room)

pub show-requires-clause-follows : goal.show-requires-clause-follows
show-requires-clause-follows g c =
    let n = c.in_ok-next.next in
    let i = c.self.invariant in
    let m = c.prepare_call.ensures in
    if_some _ n.picture (λ p is.
    let shown = c.picture.ensures in
    let good = subst (λ (o : Option Shown). IfSome o (λ q. IsPicture q.limits q.rows)) (shown.picture ∙ is) (copied_lawful c.picture.result shown.lawful) in
    let on : is_accepted n.entry.reply ≡ true = sym shown.accepted ∙ copied_there c.picture.result ∙ ap is_some (shown.picture ∙ is) in
    let there = version_ready g.F.PriceFn.may_return g.K.ServiceBrand.closure g.K.ServiceBrand.start c.self.inside.book c.prepare_call.new.book n i.1 i.0
    m.prepared.unchanged m.prepared.same_book m.legal.same_limits c.in_ok-next.ensures.prepared.ready m.legal.replayed p is on good in
    rw i.3 there)

pub returns-clause-step : goal.returns-clause-step
returns-clause-step g c =
    let n = c.in_ok-next.next in
    let b = c.self.inside.book in
    let i = c.self.invariant in
    let m = c.prepare_call.ensures in
    let told : c.in_ok-pair.pair.receipt ≡ n.entry.reply = c.in_ok-pair.ensures.receipt ∙ ap (λ e. e.reply) c.entry.ensures.entry in
    let after : c.commit.new.self.picture ≡ picture_after n.picture b.picture = c.commit.ensures.picture ∙ ap (picture_after n.picture) m.prepared.unchanged.1 in
    let step = named_step g.F.PriceFn.may_return g.K.ServiceBrand.closure g.K.ServiceBrand.start b c.prepare_call.new.book n i.1 i.0
    m.prepared.unchanged m.prepared.same_book m.legal.same_limits c.in_ok-next.ensures.prepared.ready in
    rw (← c.in_ok-next.ensures.prepared.call, told, after, ← ap (λ s. s.picture) c.self.view_is) step
