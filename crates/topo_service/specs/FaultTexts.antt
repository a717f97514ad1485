-- Which fault it is that refuses a view or a plan, or that ends a service, and its text.
use Rattle.std.specs.Prelude.{ℕ, List, ◌++◌, codes, decimal}
use Rattle.topo_core.specs.FaultTexts.{refusal_fault, refusal_text}
use Rattle.topo_faults.specs.declared.Fault.{Fault}
use Rattle.topo_faults.specs.declared.Fault.TheVariants as known
use Rattle.topo_faults.specs.Faults.{told, told_with}
use Rattle.topo_service.specs.declared.faults.EndFault.{EndFault}
use Rattle.topo_service.specs.declared.faults.EndFault.TheVariants.{PassMissing, Mismatch}
use Rattle.topo_service.specs.declared.faults.PassFault.{PassFault}
use Rattle.topo_service.specs.declared.faults.PassFault.TheVariants.{NoView, Refused}

abbrev pub pass_fault : PassFault → Fault
pass_fault NoView = known.NoView
pass_fault (Refused why) = refusal_fault why

-- a refusal is told as it is itself
abbrev pub pass_text : PassFault → List ℕ
pass_text NoView = told known.NoView
pass_text (Refused why) = refusal_text why

abbrev pub end_fault : EndFault → Fault
end_fault (PassMissing number) = known.PassMissing
end_fault (Mismatch number place) = known.Mismatch

-- it is told with the number of the pass, and the place of a receipt
abbrev pub end_text : EndFault → List ℕ
end_text (PassMissing number) = told_with known.PassMissing (decimal number)
end_text (Mismatch number place) = told_with known.Mismatch (decimal number ++ (codes " " ++ decimal place))
