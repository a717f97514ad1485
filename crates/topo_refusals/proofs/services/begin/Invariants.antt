use Rattle.std.proofs.Common.{Some}
use Rattle.std.specs.Arc.{arc_value}
use Rattle.topo_refusals.proofs.services.begin.Given as goal

abbrev pub ghosts-named-K-ServiceBrand : goal.ghosts-named-K-ServiceBrand
ghosts-named-K-ServiceBrand g a = record { start = a.start; closure = Some (arc_value a.tariff) }

abbrev pub ghosts-named-K-LogBrand : goal.ghosts-named-K-LogBrand
ghosts-named-K-LogBrand g a = record { book = a.fresh.log.seen.book }

abbrev pub ghosts-named-K-Ledger : goal.ghosts-named-K-Ledger
ghosts-named-K-Ledger g a = record { name = a.fresh.blank.name; parts = a.fresh.blank.parts }
