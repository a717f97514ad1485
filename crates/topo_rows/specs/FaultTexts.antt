-- Which fault each of the crate's is. It is told as that.
use Rattle.topo_faults.specs.declared.Fault.{Fault}
use Rattle.topo_faults.specs.declared.Fault.TheVariants as known
use Rattle.topo_rows.specs.declared.load.LoadFault.{LoadFault}
use Rattle.topo_rows.specs.declared.load.LoadFault.TheVariants.{TooMany, BadPath, BadCrossing, BadRotation, NotConnected, NotPlanar, Memory}

abbrev pub fault_of : LoadFault → Fault
fault_of TooMany = known.TooMany
fault_of BadPath = known.BadPath
fault_of BadCrossing = known.BadCrossing
fault_of BadRotation = known.BadRotation
fault_of NotConnected = known.NotConnected
fault_of NotPlanar = known.NotPlanar
fault_of Memory = known.Memory
