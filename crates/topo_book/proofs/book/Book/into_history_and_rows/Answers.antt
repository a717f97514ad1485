use Rattle.std.proofs.Common.{subst}
use Rattle.topo_price.specs.Prices.{prices_of}
use Rattle.topo_book.specs.Books.{BookState, IsBook}
use Rattle.topo_book.proofs.Histories.{is_legal}
use Rattle.topo_book.proofs.book.Book.into_history_and_rows.Goals as goal

pub returns-in_err-rows-clause-legal : goal.returns-in_err-rows-clause-legal
returns-in_err-rows-clause-legal g c =
    is_legal g.F.PriceFn.may_return c.args.self
    (subst (λ (b : BookState _). IsBook (prices_of (g.F.PriceFn.may_return b.tariff)) b.start b.history b.picture) c.self.view_is c.self.invariant.book)

pub returns-clause-legal : goal.returns-clause-legal
returns-clause-legal g c =
    is_legal g.F.PriceFn.may_return c.args.self
    (subst (λ (b : BookState _). IsBook (prices_of (g.F.PriceFn.may_return b.tariff)) b.start b.history b.picture) c.self.view_is c.self.invariant.book)
