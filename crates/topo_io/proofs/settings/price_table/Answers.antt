use Rattle.std.proofs.Common.{arith, None}
use Rattle.std.proofs.lemmas.List.FromFn.{fill_by_all}
use Rattle.topo_io.specs.Settings.{price_of_kind, price_table}
use Rattle.topo_io.proofs.settings.price_table.Goals as goal
use Rattle.topo_core.specs.declared.rows.TheConstants.{KINDS}

pub returns : goal.returns
unfolding price_table
returns c = fill_by_all (price_of_kind c.args.prices.now) c.loop-kind.table KINDS None c.loop-kind.invariant.all
    (λ k h. c.loop-kind.invariant.so_far k (omega arith))
