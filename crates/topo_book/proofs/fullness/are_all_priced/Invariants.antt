use Rattle.std.proofs.Common.{◌<◌, ℕ}
use Rattle.topo_core.specs.declared.rows.Facts.{Facts}
use Rattle.topo_price.specs.Prices.{prices_of}
use Rattle.topo_book.proofs.fullness.are_all_priced.Given as goal

abbrev pub invariant-loop-kind : goal.invariant-loop-kind
invariant-loop-kind g l = (facts : Facts) → facts.kind < l.kind → (n : ℕ) × prices_of (g.F.PriceFn.may_return l.tariff) facts n
