use Rattle.std.proofs.Common.{◌≡◌, subst, sym, ◌∙◌}
use Rattle.std.specs.Arc.{arc_value}
use Rattle.topo_core.specs.declared.calls.Entry.{Entry}
use Rattle.topo_core.specs.Steps.{Step}
use Rattle.topo_rows.specs.Shown.{IsPicture, Shown}
use Rattle.topo_price.specs.Prices.{prices_of}
use Rattle.topo_book.proofs.Histories.{book_lawful, book_steps}
use Rattle.topo_book.proofs.ReplicaLaws.{book_on}
use Rattle.topo_book.proofs.book.Book.enter_from.Goals as goal

pub apply_entry-requires-clause-lawful : goal.apply_entry-requires-clause-lawful
apply_entry-requires-clause-lawful g c =
    let f = c.self.inside in
    subst (λ (p : Shown). IsPicture p.limits p.rows) (sym (c.decide_in_place.ensures.unchanged ∙ c.in-Some.ensures.value))
    (book_lawful _ f.start _ f.history.items c.self.invariant.book)

pub invariant_of-self-2 : goal.invariant_of-self-2
invariant_of-self-2 g c =
    let f = c.self.inside in
    let entry : Entry = record { caller = c.args.caller; call = c.args.call; reply = c.in_ok-reply-3.reply } in
    let before = arc_value f.picture in
    let next = c.apply_entry.new.picture in
    let same : c.deref-2.result.now ≡ arc_value f.tariff = c.deref-2.ensures in
    let same_picture = c.decide_in_place.ensures.unchanged ∙ c.in-Some.ensures.value in
    let limits = subst (λ (p : Shown). next.limits ≡ p.limits) same_picture c.apply_entry.ensures.same_limits in
    let now = c.decide_in_place.new.picture in
    let told = subst (λ t. Step (prices_of (g.F.PriceFn.may_return t)) now.limits now.rows entry.call entry.reply next.rows)
    same c.in_ok-apply_entry.ensures.step in
    let step = subst (λ (p : Shown). Step (prices_of (g.F.PriceFn.may_return (arc_value f.tariff))) p.limits p.rows entry.call entry.reply next.rows)
    same_picture told in
    rw (c.push_reserved.ensures.items, c.reserve.ensures.items) (book_on c.self.invariant entry next
    (book_steps _ f.start before f.history.items c.self.invariant.book next entry step limits c.apply_entry.ensures.lawful))
