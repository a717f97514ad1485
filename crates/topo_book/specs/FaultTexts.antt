-- Which fault each of a replay's is, and its text.
use Rattle.std.specs.Prelude.{ℕ, List, decimal}
use Rattle.topo_faults.specs.declared.Fault.{Fault}
use Rattle.topo_faults.specs.declared.Fault.TheVariants as known
use Rattle.topo_faults.specs.Faults.{told, told_with}
use Rattle.topo_book.specs.declared.replaying.ReplayFault.{ReplayFault}
use Rattle.topo_book.specs.declared.replaying.ReplayFault.TheVariants.{WrongReply, Memory}

abbrev pub fault_of : ReplayFault → Fault
fault_of (WrongReply place) = known.WrongReply
fault_of Memory = known.Memory

-- a wrong reply is told with its place
abbrev pub fault_text : ReplayFault → List ℕ
fault_text (WrongReply place) = told_with known.WrongReply (decimal place)
fault_text Memory = told known.Memory
