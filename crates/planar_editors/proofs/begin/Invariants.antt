use Rattle.std.proofs.Common.{Some}
use Rattle.std.specs.Arc.{arc_value}
use Rattle.planar_editors.proofs.begin.Given as goal

abbrev pub ghosts-share-K-ServiceBrand : goal.ghosts-share-K-ServiceBrand
ghosts-share-K-ServiceBrand g a = record { start = a.start; closure = Some (arc_value a.tariff) }

abbrev pub ghosts-share-K-LogBrand : goal.ghosts-share-K-LogBrand
ghosts-share-K-LogBrand g a = record { book = a.fresh.log.seen.book }

abbrev pub ghosts-share-K-Ledger : goal.ghosts-share-K-Ledger
ghosts-share-K-Ledger g a = record { name = a.fresh.blank.name; parts = a.fresh.blank.parts }
