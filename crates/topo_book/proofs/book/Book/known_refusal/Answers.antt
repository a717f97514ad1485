use Rattle.std.proofs.Common.{IfSome, subst}
use Rattle.topo_book.specs.RefusedCalls.{WasRefused}
use Rattle.topo_book.proofs.RefusedCalls.{refused_by_book}
use Rattle.topo_book.proofs.book.Book.known_refusal.Goals as goal

pub returns-in-Insert-clause-due : goal.returns-in-Insert-clause-due
returns-in-Insert-clause-due g c =
    refused_by_book g.F.PriceFn.may_return c.args.self.now c.args.call c.refused_among.result c.history.ensures.legal
    (subst (λ entries. IfSome c.refused_among.result (WasRefused entries c.args.call)) c.history.ensures.entries c.refused_among.ensures.was_refused)
