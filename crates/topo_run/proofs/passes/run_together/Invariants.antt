use Rattle.std.proofs.Common.{Some}
use Rattle.std.specs.Arc.{arc_value}
use Rattle.topo_run.proofs.passes.run_together.Given as goal

abbrev pub ghosts-serve-K-ServiceBrand : goal.ghosts-serve-K-ServiceBrand
ghosts-serve-K-ServiceBrand g a = record { start = a.beginning.0; closure = Some (arc_value a.beginning.1) }

abbrev pub ghosts-serve-K-LogBrand : goal.ghosts-serve-K-LogBrand
ghosts-serve-K-LogBrand g a = record { book = a.fresh.log.seen.book }

abbrev pub ghosts-serve-K-Ledger : goal.ghosts-serve-K-Ledger
ghosts-serve-K-Ledger g a = record { name = a.fresh.blank.name; parts = a.fresh.blank.parts }
