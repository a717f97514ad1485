-- Which fault a refusal is, and its text.
use Rattle.std.specs.Prelude.{ℕ, List, decimal}
use Rattle.topo_faults.specs.declared.Fault.{Fault}
use Rattle.topo_faults.specs.declared.Fault.TheVariants as known
use Rattle.topo_faults.specs.Faults.{number, told, told_with}
use Rattle.topo_core.specs.declared.calls.Refusal.{Refusal}
use Rattle.topo_core.specs.declared.calls.Refusal.TheVariants.{NoVertex, SameEnds, NoPosition, NoEdge, BadKind, Cut, Full, Memory, NoRoute}

abbrev pub refusal_fault : Refusal → Fault
refusal_fault NoVertex = known.NoVertex
refusal_fault SameEnds = known.SameEnds
refusal_fault NoPosition = known.NoPosition
refusal_fault NoEdge = known.NoEdge
refusal_fault BadKind = known.BadKind
refusal_fault (Cut segment) = known.Cut
refusal_fault Full = known.Full
refusal_fault Memory = known.Memory
refusal_fault NoRoute = known.NoRoute

abbrev pub refusal_number : Refusal → ℕ
refusal_number why = number (refusal_fault why)

-- a cut is told with its segment
abbrev pub refusal_text : Refusal → List ℕ
refusal_text (Cut segment) = told_with known.Cut (decimal segment)
refusal_text why = told (refusal_fault why)
