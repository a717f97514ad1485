use Rattle.std.proofs.Common.{length, subst, sym}
use Rattle.std.specs.Prelude.{nat_lt}
use Rattle.std.specs.Arc.{arc_value}
use Rattle.topo_price.specs.Prices.{prices_of}
use Rattle.topo_book.specs.declared.replicas.TheConstants.{MAX_REPLICAS}
use Rattle.topo_book.specs.Books.{BookState, IsReplica}
use Rattle.topo_book.proofs.ReplicaLaws.{book_kept}
use Rattle.topo_book.proofs.book.Book.decide_on_replica.Goals as goal

pub invariant_of-self : goal.invariant_of-self
invariant_of-self g c =
    let f = c.self.inside in
    let r = c.args.replica in
    let stands = subst (λ (b : BookState _). IsReplica (prices_of (g.F.PriceFn.may_return b.tariff)) b.start b.history r.entries (arc_value r.picture))
    (sym c.self.view_is) c.requires.stands in
    rw c.keep.ensures (book_kept c.self.invariant (nat_lt (length f.replicas) MAX_REPLICAS) r stands)
