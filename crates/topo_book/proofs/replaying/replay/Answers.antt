use Rattle.std.proofs.Common.{rules}
use Rattle.topo_price.specs.Prices.{prices_of}
use Rattle.topo_book.proofs.Histories.{replays}
use Rattle.topo_book.proofs.replaying.replay.Goals as goal

pub returns-clause-replayed : goal.returns-clause-replayed
returns-clause-replayed g c =
    replays (prices_of (g.F.PriceFn.may_return c.args.tariff.now)) c.args.start.now.limits c.args.entries.now c.args.start.now.rows
    c.replay_all.new.picture.rows (search rules)
