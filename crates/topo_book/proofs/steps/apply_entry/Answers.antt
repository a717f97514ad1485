use Rattle.topo_core.proofs.Interface.{least_is_simple}
use Rattle.topo_price.specs.Prices.{prices_of}
use Rattle.topo_book.proofs.Due.{first_of_due}
use Rattle.topo_book.proofs.steps.apply_entry.Goals as goal

pub apply_route-requires-clause-simple : goal.apply_route-requires-clause-simple
apply_route-requires-clause-simple g c =
    let price = prices_of (g.F.PriceFn.may_return c.args.tariff.now) in
    let arm = c.in-Insert-Inserted in
    let first = first_of_due price c.args.picture.now.limits c.args.picture.now.rows c.args.entry.now.call c.args.entry.now.reply arm.u arm.v arm.kind arm.made
    c.requires.due arm.is-0 arm.is-1 in
    least_is_simple price c.keeps_promise.ensures c.args.picture.now.rows c.requires.lawful.lawful.embedding.well_formed arm.u arm.v arm.made.route
    arm.made.price first.is_least
