-- Which fault each of a text's is, and its text.
use Rattle.std.specs.Prelude.{ℕ, List}
use Rattle.topo_faults.specs.declared.Fault.{Fault}
use Rattle.topo_faults.specs.declared.Fault.TheVariants as known
use Rattle.topo_faults.specs.Faults.{told, told_with}
use Rattle.topo_script.specs.declared.fault.ScriptFault.{ScriptFault}
use Rattle.topo_script.specs.declared.fault.ScriptFault.TheVariants.{Memory, NotJson, TooLong, BadShape, BadVersion, BadNumber}
use Rattle.topo_script.specs.Paths.{path_text}

abbrev pub fault_of : ScriptFault → Fault
fault_of Memory = known.Memory
fault_of NotJson = known.NotJson
fault_of TooLong = known.TooLong
fault_of (BadShape path) = known.BadShape
fault_of BadVersion = known.BadVersion
fault_of (BadNumber path) = known.BadNumber

-- where it has a place, it is told with its path
abbrev pub fault_text : ScriptFault → List ℕ
fault_text (BadShape path) = told_with known.BadShape (path_text path)
fault_text (BadNumber path) = told_with known.BadNumber (path_text path)
fault_text fault = told (fault_of fault)
