use Rattle.topo_price.specs.Prices.{prices_of}
use Rattle.topo_book.proofs.Due.{due_deletion, due_growth}
use Rattle.topo_book.proofs.steps.decide.Goals as goal

pub returns-in-Ok-clause-due : goal.returns-in-Ok-clause-due
returns-in-Ok-clause-due g c =
    due_growth (prices_of (g.F.PriceFn.may_return c.args.tariff.now))
    c.args.picture.now.limits c.args.picture.now.rows c.args.call c.in-Grow.u c.in-Grow.position c.in-Grow.kind _ _ c.in-Grow.is c.in-Ok.ensures.admitted
    c.in-Ok.ensures.numbers.0 c.in-Ok.ensures.numbers.1

pub returns-in-Ok-admit_deletion-clause-due : goal.returns-in-Ok-admit_deletion-clause-due
returns-in-Ok-admit_deletion-clause-due g c =
    due_deletion (prices_of (g.F.PriceFn.may_return c.args.tariff.now))
    c.args.picture.now.limits c.args.picture.now.rows c.args.call c.in-Delete.edge _ c.in-Delete.is c.in-Ok-admit_deletion.ensures.there
    c.in-Ok-admit_deletion.ensures.whole c.new.ensures
