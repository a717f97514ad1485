use Rattle.std.proofs.Common.{◌≡◌, take}
use Rattle.topo_rows.specs.Shown.{IsPicture}
use Rattle.topo_price.specs.Prices.{prices_of}
use Rattle.topo_book.specs.Books.{ReplaysLawfully}
use Rattle.topo_book.proofs.replaying.replay_all.Given as goal

abbrev pub invariant-loop-index : goal.invariant-loop-index
invariant-loop-index g l = record {
  same_limits : l.picture.limits ≡ l.initial.picture.limits;
  lawful : IsPicture l.picture.limits l.picture.rows;
  before : ReplaysLawfully (prices_of (g.F.PriceFn.may_return l.tariff)) l.initial.picture.limits l.initial.picture.rows (take l.index l.entries) l.picture.rows;
}
