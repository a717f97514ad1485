-- Which fault each of the crate's is, and its text.
use Rattle.std.specs.Prelude.{ℕ, List, decimal}
use Rattle.topo_faults.specs.declared.Fault.{Fault}
use Rattle.topo_faults.specs.declared.Fault.TheVariants as known
use Rattle.topo_faults.specs.Faults.{told, told_with}
use Rattle.topo_graph.specs.declared.GraphFault.{GraphFault}
use Rattle.topo_graph.specs.declared.GraphFault.TheVariants.{Loop, NoEnd, TooLarge, NotPlanarized, OtherGraph, NotShown}

abbrev pub fault_of : GraphFault → Fault
fault_of (Loop place) = known.Loop
fault_of (NoEnd place) = known.NoEnd
fault_of TooLarge = known.TooLarge
fault_of (NotPlanarized place) = known.NotPlanarized
fault_of OtherGraph = known.OtherGraph
fault_of NotShown = known.NotShown

-- that of an edge is told with the place of the edge
abbrev pub fault_text : GraphFault → List ℕ
fault_text (Loop place) = told_with known.Loop (decimal place)
fault_text (NoEnd place) = told_with known.NoEnd (decimal place)
fault_text (NotPlanarized place) = told_with known.NotPlanarized (decimal place)
fault_text fault = told (fault_of fault)
