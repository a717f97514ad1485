use Rattle.std.proofs.Common.{Option, length, refl, sym, subst}
use Rattle.std.proofs.lemmas.Option.{slice_get_read}
use Rattle.topo_core.specs.Steps.{Step}
use Rattle.topo_book.specs.Books.{IsDue}
use Rattle.topo_versions.specs.Names.{prices_named}
use Rattle.topo_versions.specs.Versions.{AreLegal}
use Rattle.topo_service.proofs.Missed.{due, one_further}
use Rattle.topo_service.proofs.planned.inbox.apply_all.Goals as goal

pub apply_entry-requires-clause-due : goal.apply_entry-requires-clause-due
apply_entry-requires-clause-due g c =
    let answers = g.F.PriceFn.may_return in
    let price = prices_named answers g.K.ServiceBrand.closure in
    let start = g.K.ServiceBrand.start in
    let entries = c.args.entries.now in
    let entry = c.index-entries-index.result in
    let picture = c.loop-index.picture in
    let legal = subst (λ es. AreLegal price start es) c.requires.parts c.len.ensures.legal in
    let there = slice_get_read entries (length entries) c.loop-index.index entry refl c.loop-index-test.true c.index-entries-index.is in
    subst (λ (o : Option _). IsDue (prices_named answers o) picture.limits picture.rows entry.call entry.reply) c.requires.named
    (due price start c.args.from.now entries legal c.loop-index.index entry picture c.loop-index.invariant there)

pub loop-index-preserved : goal.loop-index-preserved
loop-index-preserved g c =
    let answers = g.F.PriceFn.may_return in
    let price = prices_named answers g.K.ServiceBrand.closure in
    let start = g.K.ServiceBrand.start in
    let entries = c.args.entries.now in
    let entry = c.index-entries-index.result in
    let picture = c.loop-index.picture in
    let next = c.apply_entry.new.picture in
    let legal = subst (λ es. AreLegal price start es) c.requires.parts c.len.ensures.legal in
    let there = slice_get_read entries (length entries) c.loop-index.index entry refl c.loop-index-test.true c.index-entries-index.is in
    let step = subst (λ (o : Option _). Step (prices_named answers o) picture.limits picture.rows entry.call entry.reply next.rows) (sym c.requires.named)
    c.in_ok-apply_entry.ensures.step in
    one_further price start c.args.from.now entries legal c.loop-index.index entry picture c.loop-index.invariant there next step
    c.apply_entry.ensures.same_limits c.apply_entry.ensures.lawful
