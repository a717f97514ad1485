use Rattle.topo_price.specs.Prices.{prices_of}
use Rattle.topo_book.specs.Books.{IsReplica}
use Rattle.topo_book.proofs.book.Book.replay_to.Given as goal

abbrev pub invariant-loop-index : goal.invariant-loop-index
invariant-loop-index g l = IsReplica (prices_of (g.F.PriceFn.may_return l.self.tariff)) l.self.start l.self.history l.index l.picture
