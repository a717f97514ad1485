use Rattle.std.proofs.Common.{◌≡◌, List, Some, ap, arith, length, refl, subst, sym, ◌∙◌}
use Rattle.std.specs.Prelude.{slice_get}
use Rattle.std.proofs.lemmas.Option.{slice_get_read}
use Rattle.topo_core.specs.declared.calls.Entry.{Entry}
use Rattle.topo_core.specs.Steps.{Step}
use Rattle.topo_price.specs.Prices.{prices_of}
use Rattle.topo_book.specs.Books.{BookState, IsBook, IsDue}
use Rattle.topo_book.proofs.Histories.{book_lawful, on_ok}
use Rattle.topo_book.proofs.ReplicaLaws.{due_at, one_on}
use Rattle.topo_book.proofs.book.Book.replay_to.Goals as goal

pub apply_entry-requires-clause-lawful : goal.apply_entry-requires-clause-lawful
apply_entry-requires-clause-lawful g c =
    let s = c.args.self.now in
    book_lawful (prices_of (g.F.PriceFn.may_return s.tariff)) s.start c.loop-index.picture _ c.loop-index.invariant.stands

pub apply_entry-requires-clause-due : goal.apply_entry-requires-clause-due
apply_entry-requires-clause-due g c =
    let s = c.args.self.now in
    let entry = c.index-history-index.result in
    let picture = c.loop-index.picture in
    let history : c.history-history.result.now ≡ s.history = c.history-history.ensures.entries in
    let tariff : c.deref.result.now ≡ s.tariff = c.deref.ensures ∙ ap (λ (b : BookState _). b.tariff) c.self.view_is in
    let book = subst (λ (b : BookState _). IsBook (prices_of (g.F.PriceFn.may_return b.tariff)) b.start b.history b.picture)
    c.self.view_is c.self.invariant.book in
    let there = subst (λ (h : List Entry). slice_get h c.loop-index.index ≡ Some entry) history
    (slice_get_read c.history-history.result.now (length c.history-history.result.now)
    c.loop-index.index entry refl (omega (arith, c.loop-index-test.true, c.requires.there, ap (λ (h : List Entry). length h) history)) c.index-history-index.is) in
    subst (λ t. IsDue (prices_of (g.F.PriceFn.may_return t)) picture.limits picture.rows entry.call entry.reply) (sym tariff)
    (due_at (prices_of (g.F.PriceFn.may_return s.tariff)) s.start s.history s.picture book c.loop-index.index entry picture c.loop-index.invariant there)

pub loop-index-preserved : goal.loop-index-preserved
loop-index-preserved g c =
    let s = c.args.self.now in
    let entry = c.index-history-index.result in
    let picture = c.loop-index.picture in
    let history : c.history-history.result.now ≡ s.history = c.history-history.ensures.entries in
    let tariff : c.deref.result.now ≡ s.tariff = c.deref.ensures ∙ ap (λ (b : BookState _). b.tariff) c.self.view_is in
    let long = ap (λ (h : List Entry). length h) history in
    let there = subst (λ (h : List Entry). slice_get h c.loop-index.index ≡ Some entry) history
    (slice_get_read c.history-history.result.now (length c.history-history.result.now)
    c.loop-index.index entry refl (omega (arith, c.loop-index-test.true, c.requires.there, long)) c.index-history-index.is) in
    let done = on_ok c.apply_entry.result (sym c.is_err.ensures.value ∙ c.if-is_err.false) c.apply_entry.ensures.step in
    let step =
    subst (λ t. Step (prices_of (g.F.PriceFn.may_return t)) picture.limits picture.rows entry.call entry.reply c.apply_entry.new.picture.rows) tariff done in
    one_on (prices_of (g.F.PriceFn.may_return s.tariff))
    s.start s.history c.loop-index.index entry picture c.apply_entry.new.picture c.loop-index.invariant there (omega arith) step
    c.apply_entry.ensures.same_limits c.apply_entry.ensures.lawful

pub loop-index-init : goal.loop-index-init
loop-index-init g c = c.requires.stands
