use Rattle.topo_book.proofs.Histories.{is_legal}
use Rattle.topo_book.proofs.book.Book.take_back.Goals as goal

pub returns-in-Ok-clause-legal : goal.returns-in-Ok-clause-legal
returns-in-Ok-clause-legal g c =
    let s = c.take_follower.new.self in
    is_legal g.F.PriceFn.may_return c.cut.new.self
    (rw (c.cut.ensures.history, c.cut.ensures.picture, c.cut.ensures.same_book.0, c.cut.ensures.same_book.1) c.in-Ok.ensures.picture.stands)
