-- What refuses a pass, a view, a plan, or the end of a service.
use Rattle.std.specs.Prelude.{◌≡◌, ◌≢◌, ◌<◌, ℕ, List}
use Rattle.topo_core.specs.declared.rows.Rows.{Rows}
use Rattle.topo_core.specs.declared.calls.Entry.{Entry}
use Rattle.topo_core.specs.declared.calls.Refusal.{Refusal}
use Rattle.topo_core.specs.declared.calls.Refusal.TheVariants.{NoVertex, SameEnds, NoPosition, NoEdge, BadKind, Cut, Full, Memory, NoRoute}
use Rattle.topo_core.specs.Items.{IsIn}
use Rattle.topo_core.specs.Routes.{Pricing, HasNoRoute}
use Rattle.topo_rows.specs.Shown.{Shown}
use Rattle.topo_picture.specs.Ends.{HasVertices}
use Rattle.topo_versions.specs.Versions.{IsVersionFrom}
use Rattle.topo_service.specs.declared.faults.EndFault.{EndFault}
use Rattle.topo_service.specs.declared.faults.EndFault.TheVariants.{PassMissing, Mismatch}
use Rattle.topo_service.specs.declared.faults.PassFault.{PassFault}
use Rattle.topo_service.specs.declared.faults.PassFault.TheVariants.{NoView, Refused}
use Rattle.topo_service.specs.Passes.{PassState}
use Rattle.topo_service.specs.Receipts.{Differs, HasNumber}

-- the receipt at k of a pass with this number is not its caller's entry k
pub record HasDifference (history : List Entry) (passes : List PassState) (number k : ℕ) : Type 0 where
  pub pass : PassState
  pub there : IsIn pass passes
  pub is_numbered : pass.number ≡ number
  pub differs : Differs history pass.number pass.receipts k

-- a pass is missing: the least number of one that was given out and is not there. Or none is, and a receipt differs.
abbrev pub IsEndFault : ℕ → List Entry → List PassState → EndFault → Type 0
IsEndFault given history passes (PassMissing n) = (n < given) × (HasNumber n passes → ⊥) × ((m : ℕ) → m < n → HasNumber m passes)
IsEndFault given history passes (Mismatch n k) = ((m : ℕ) → m < given → HasNumber m passes) × HasDifference history passes n k

-- why no plan was made on these rows: the first cause that holds, but memory may be wanted in the search
abbrev pub IsPlanRefusal : Pricing → Rows → ℕ → ℕ → Refusal → Type 0
IsPlanRefusal price rows u v NoVertex = HasVertices rows u v → ⊥
IsPlanRefusal price rows u v SameEnds = HasVertices rows u v × (u ≡ v)
IsPlanRefusal price rows u v NoRoute = HasVertices rows u v × (u ≢ v) × HasNoRoute price rows u v
IsPlanRefusal price rows u v Memory = HasVertices rows u v × (u ≢ v)
IsPlanRefusal price rows u v NoPosition = ⊥
IsPlanRefusal price rows u v NoEdge = ⊥
IsPlanRefusal price rows u v BadKind = ⊥
IsPlanRefusal price rows u v (Cut segment) = ⊥
IsPlanRefusal price rows u v Full = ⊥

-- no view was had; or the plan was refused on the picture after what was seen, at the prices asked
abbrev pub IsPlanFault : Pricing → Pricing → Shown → List Entry → ℕ → ℕ → PassFault → Type 0
IsPlanFault named asked start seen u v NoView = Unit {0}
IsPlanFault named asked start seen u v (Refused why) = (picture : Shown) × IsVersionFrom named start seen picture × IsPlanRefusal asked picture.rows u v why
