use Rattle.std.proofs.Common.{◌∙◌, sym}
use Rattle.std.proofs.lemmas.Bool.{false≢true}
use Rattle.topo_price.specs.Prices.{prices_of}
use Rattle.topo_book.proofs.Due.{one_is_due}
use Rattle.topo_book.proofs.replaying.replay_entry.Goals as goal

pub returns-then-not-equals-clause-due : goal.returns-then-not-equals-clause-due
returns-then-not-equals-clause-due g c =
    one_is_due (prices_of (g.F.PriceFn.may_return c.args.tariff.now))
    c.args.picture.now.limits c.args.picture.now.rows c.args.entry.now.call c.in_ok-reply.reply c.args.entry.now.reply c.in_ok-reply.ensures.due
    (λ same. let told = c.equals.ensures.1 same in let other = c.if-not-equals.true in false≢true (sym other ∙ told))
