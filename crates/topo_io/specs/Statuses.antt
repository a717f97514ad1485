-- Which fault each of a command's is, its text, and how the program ends.
use Rattle.std.specs.Prelude.{ℕ, List, [], ◌∷◌, ◌++◌, ◌==◌, codes, decimal, if◌then◌else◌}
use Rattle.topo_faults.specs.declared.Fault.{Fault}
use Rattle.topo_faults.specs.declared.Fault.TheVariants as known
use Rattle.topo_faults.specs.Faults.{number, told, told_with}
use Rattle.topo_script.specs.FaultTexts.{fault_of as script_fault, fault_text as script_text}
use Rattle.topo_rows.specs.FaultTexts.{fault_of as load_fault}
use Rattle.topo_price.specs.FaultTexts.{fault_text as price_text}
use Rattle.topo_graph.specs.FaultTexts.{fault_of as graph_fault, fault_text as graph_text}
use Rattle.topo_io.specs.declared.fault.RunFault.{RunFault}
use Rattle.topo_io.specs.declared.fault.RunFault.TheVariants.{Memory, Script, BadLimits, Price, Load, Graph, NoSeat, Mismatch}
use Rattle.topo_io.specs.declared.fault.RunFault.TheVariants.{WrongReply, WrongPicture, ReadFault, WriteFault}

abbrev pub fault_of : RunFault → Fault
fault_of Memory = known.Memory
fault_of (Script fault) = script_fault fault
fault_of BadLimits = known.BadLimits
fault_of (Price fault) = known.BadPrice
fault_of (Load fault) = load_fault fault
fault_of (Graph fault) = graph_fault fault
fault_of NoSeat = known.NoSeat
fault_of (Mismatch list place) = known.Mismatch
fault_of (WrongReply place) = known.WrongReply
fault_of WrongPicture = known.WrongPicture
fault_of ReadFault = known.ReadFault
fault_of WriteFault = known.WriteFault

-- it is told with what values it has
abbrev pub fault_text : RunFault → List ℕ
fault_text (Script fault) = script_text fault
fault_text (Price fault) = price_text fault
fault_text (Graph fault) = graph_text fault
fault_text (Mismatch list place) = told_with known.Mismatch (decimal list ++ (codes " " ++ decimal place))
fault_text (WrongReply place) = told_with known.WrongReply (decimal place)
fault_text fault = told (fault_of fault)

-- the line by which the program tells a fault, with its line feed
abbrev pub fault_line : RunFault → List ℕ
fault_line fault = codes "planar: " ++ (fault_text fault ++ 10 ∷ [])

-- out of memory, in each of its forms, is 3, and every other fault is 1
abbrev pub status_of : RunFault → ℕ
status_of fault = if number (fault_of fault) == number known.Memory then 3 else 1
