-- Which fault each of the crate's is. It is told as that.
use Rattle.topo_faults.specs.declared.Fault.{Fault}
use Rattle.topo_faults.specs.declared.Fault.TheVariants as known
use Rattle.topo_route.specs.declared.plan.PlanFault.{PlanFault}
use Rattle.topo_route.specs.declared.plan.PlanFault.TheVariants.{WrongLength, UnevenFace, TooSteep, TargetNotZero, NotARoute, NotLeast, NotFirst}

abbrev pub fault_of : PlanFault → Fault
fault_of WrongLength = known.WrongLength
fault_of UnevenFace = known.UnevenFace
fault_of TooSteep = known.TooSteep
fault_of TargetNotZero = known.TargetNotZero
fault_of NotARoute = known.NotARoute
fault_of NotLeast = known.NotLeast
fault_of NotFirst = known.NotFirst
