use Rattle.std.proofs.Common.{◌≡◌, drop}
use Rattle.topo_script.specs.ReportTexts.{has_null}
use Rattle.topo_script.proofs.report_text.version_of.Given as goal

abbrev pub invariant-loop-price : goal.invariant-loop-price
invariant-loop-price l = has_null (drop l.price-index l.prices) ≡ has_null l.prices
