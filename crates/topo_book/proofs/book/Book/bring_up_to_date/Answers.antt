use Rattle.std.proofs.Common.{◌≡◌, ap, arith, length, subst}
use Rattle.std.specs.Arc.{arc_value}
use Rattle.topo_book.proofs.Histories.{on_ok_so}
use Rattle.topo_price.specs.Prices.{prices_of}
use Rattle.topo_book.specs.Books.{BookState, IsBook, IsReplica}
use Rattle.topo_book.proofs.ReplicaLaws.{up_to_date}
use Rattle.topo_book.proofs.book.Book.bring_up_to_date.Goals as goal

pub returns-clause-equal : goal.returns-clause-equal
returns-clause-equal g c =
    let s = c.args.self.now in
    let price = prices_of (g.F.PriceFn.may_return s.tariff) in
    let book = subst (λ (b : BookState _). IsBook (prices_of (g.F.PriceFn.may_return b.tariff)) b.start b.history b.picture)
    c.self.view_is c.self.invariant.book in
    let carried = c.carry_on in
    let long = ap (λ (b : BookState _). length b.history) c.self.view_is in
    on_ok_so c.carry_on.result
    (λ reached.
    let all : carried.new.replica.entries ≡ length s.history = omega (arith, reached, c.len.ensures, long, c.self.inside.history.ok) in
    up_to_date price s.start s.history s.picture book _
    (subst (λ n. IsReplica price s.start s.history n (arc_value carried.new.replica.picture)) all carried.ensures.stands))
    carried.ensures.reached
