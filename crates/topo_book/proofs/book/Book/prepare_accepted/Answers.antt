use Rattle.std.proofs.Common.{◌≡◌, ap, arith, length, subst, sym, ◌∙◌}
use Rattle.std.specs.Prelude.{nat_lt}
use Rattle.std.specs.Arc.{arc_value}
use Rattle.topo_rows.specs.Shown.{Shown}
use Rattle.topo_price.specs.Prices.{prices_of}
use Rattle.topo_book.specs.declared.replicas.TheConstants.{MAX_REPLICAS}
use Rattle.topo_book.specs.Books.{BookState, IsReplica}
use Rattle.topo_book.proofs.Histories.{on_err}
use Rattle.topo_book.proofs.ReplicaLaws.{book_kept, whole}
use Rattle.topo_book.proofs.book.Book.prepare_accepted.Goals as goal

pub invariant_of-self : goal.invariant_of-self
invariant_of-self g c =
    let f = c.self.inside in
    let price = prices_of (g.F.PriceFn.may_return (arc_value f.tariff)) in
    let stays = on_err c.apply_entry_unshared.result (sym c.is_err.ensures.value ∙ c.if-is_err.true) c.apply_entry_unshared.ensures.unchanged in
    let same : arc_value f.picture ≡ arc_value c.apply_entry_unshared.new.picture = ap (λ (b : BookState _). b.picture) c.self.view_is
    ∙ sym c.in_ok-unshared.ensures.equal ∙ sym stays in
    let all = whole price f.start f.history.items (arc_value f.picture) c.self.invariant.book in
    let long : length f.history.items ≡ c.len.result = omega (arith, f.history.ok) in
    let stands = subst (λ (p : Shown). IsReplica price f.start f.history.items c.len.result p) same
    (subst (λ k. IsReplica price f.start f.history.items k (arc_value f.picture)) long all) in
    rw c.keep.ensures (book_kept c.self.invariant (nat_lt (length f.replicas) MAX_REPLICAS)
    (record { picture = c.apply_entry_unshared.new.picture; entries = c.len.result }) stands)
