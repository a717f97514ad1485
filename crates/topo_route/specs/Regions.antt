-- Regions that searches have seen: where a later picture has kept one, the route that the search found is still the first.
use Rattle.std.specs.Prelude.{◌≡◌, ◌==◌, ℕ, ◌<◌, ◌≤◌, Bool, true, false, List, Some, All, IfSome, length, slice_index_or, is_some}
use Rattle.topo_core.specs.declared.calls.Call.{Call}
use Rattle.topo_core.specs.declared.calls.Call.TheVariants.{Grow, Insert, Delete}
use Rattle.topo_core.specs.declared.calls.Entry.{Entry}
use Rattle.topo_core.specs.declared.calls.Reply.{Reply}
use Rattle.topo_core.specs.declared.calls.Reply.TheVariants.{Grown, Inserted as Put, Deleted, Refused}
use Rattle.topo_core.specs.declared.darts.Dart.{Dart}
use Rattle.topo_core.specs.declared.limits.Limits.{Limits}
use Rattle.topo_core.specs.declared.rows.CrossRow.{CrossRow}
use Rattle.topo_core.specs.declared.rows.EdgeRow.{EdgeRow}
use Rattle.topo_core.specs.declared.rows.Rows.{Rows}
use Rattle.topo_core.specs.declared.routes.Route.{Route}
use Rattle.topo_core.specs.Items.{IsIn}
use Rattle.topo_core.specs.Lawful.{Lawful}
use Rattle.topo_core.specs.Picture.{corner, cross_row, edge_at, edge_row, rotation}
use Rattle.topo_core.specs.Routes.{IsFirst, Pricing}
use Rattle.topo_core.specs.Steps.{Step}
use Rattle.topo_route.specs.Surviving.{IsRegion, KeepsEnds, KeepsFaces, unmoved}

-- ---- Regions

-- edges and vertices of a picture, marked by a 1 at their ids; an id past the end of a list is not marked
pub record RegionState : Type 0 where
  pub edges : List ℕ
  pub vertices : List ℕ

abbrev pub holds_edge : RegionState → ℕ → Bool
holds_edge region e = slice_index_or region.edges e 0 == 1

abbrev pub holds_vertex : RegionState → ℕ → Bool
holds_vertex region w = slice_index_or region.vertices w 0 == 1

-- its edges and vertices are there, and it holds both ends of each edge
pub record IsRegionOf (rows : Rows) (region : RegionState) : Type 0 where
  pub there : (e : ℕ) → holds_edge region e ≡ true → is_some (edge_row rows e) ≡ true
  pub vertices : (w : ℕ) → holds_vertex region w ≡ true → w < length rows.rotations
  pub a_held : (e : ℕ) → holds_edge region e ≡ true → holds_vertex region (edge_at rows e).a ≡ true
  pub b_held : (e : ℕ) → holds_edge region e ≡ true → holds_vertex region (edge_at rows e).b ≡ true

-- The other picture has the region as it was: its edges with the crossings on them, and the edges round its vertices.
pub record IsKept (before now : Rows) (region : RegionState) : Type 0 where
  pub edges : (e : ℕ) → holds_edge region e ≡ true → edge_row now e ≡ edge_row before e
  pub crossings : (e x : ℕ) → holds_edge region e ≡ true → IsIn x (edge_at before e).crossings → cross_row now x ≡ cross_row before x
  pub rotations : (w : ℕ) → holds_vertex region w ≡ true → rotation now w ≡ rotation before w

-- the route is the first, at this price, on each lawful picture that has kept the region
abbrev pub IsFirstWhileKept : Pricing → Rows → ℕ → ℕ → RegionState → Route → ℕ → Type 0
IsFirstWhileKept price before u v region r p = (now : Rows) → Lawful now → IsKept before now region → IsFirst price now u v r p

-- ---- Calls that spare a region

-- an edge that is not of the region, ends at no vertex of it, and crosses no edge of it
pub record IsApart (before : Rows) (region : RegionState) (row : EdgeRow) : Type 0 where
  pub edge : holds_edge region row.id ≡ false
  pub a : holds_vertex region row.a ≡ false
  pub b : holds_vertex region row.b ≡ false
  pub crossed : (x : ℕ) (c : CrossRow) → IsIn x row.crossings → cross_row before x ≡ Some c → holds_edge region c.crossed ≡ false
  pub newcomer : (x : ℕ) (c : CrossRow) → IsIn x row.crossings → cross_row before x ≡ Some c → holds_edge region c.newcomer ≡ false

-- The call, answered so on a picture that came later, touches nothing of the region. An edge that is deleted and was not there
-- when the region was seen has spared it when it was put in.
abbrev pub Spares : Rows → RegionState → Call → Reply → Type 0
Spares before region call (Refused why) = Unit {0}
Spares before region (Grow u position kind) (Grown vertex edge) = holds_vertex region u ≡ false
Spares before region (Insert u v kind) (Put made) = (holds_vertex region u ≡ false) × (holds_vertex region v ≡ false)
    × All (λ d. holds_edge region d.edge ≡ false) made.route.crossed
Spares before region (Delete e) (Deleted edge) = IfSome (edge_row before e) (IsApart before region)
-- no other reply is given
Spares before region (Grow u position kind) (Put made) = ⊥
Spares before region (Grow u position kind) (Deleted edge) = ⊥
Spares before region (Insert u v kind) (Grown vertex edge) = ⊥
Spares before region (Insert u v kind) (Deleted edge) = ⊥
Spares before region (Delete e) (Grown vertex edge) = ⊥
Spares before region (Delete e) (Put made) = ⊥

abbrev pub AllSpare : Rows → RegionState → List Entry → Type 0
AllSpare before region entries = All (λ entry. Spares before region entry.call entry.reply) entries

-- ---- The laws

-- a picture that has kept a region keeps it when a call spares it
abbrev pub SparedRegionsStayKept : Pricing → Type 0
SparedRegionsStayKept price = (limits : Limits) (before p q : Rows) (region : RegionState) (call : Call) (reply : Reply) → Lawful before → Lawful p
    → IsRegionOf before region
    → IsKept before p region → Step price limits p call reply q → Spares before region call reply → IsKept before q region

-- where a picture has kept a region, it keeps the faces that lie in it, the corners of v, and those of u as far as the start
abbrev pub KeptRegionsKeepFaces : Type 0
KeptRegionsKeepFaces = (before now : Rows) (region : RegionState) (inside : Dart → Bool) (u v start : ℕ) → Lawful before → Lawful now → IsRegionOf before region
    → IsKept before now region
    → IsRegion before inside → ((d : Dart) → inside d ≡ true → holds_edge region d.edge ≡ true) → holds_vertex region u ≡ true → holds_vertex region v ≡ true
    → ((q : ℕ) (c : Dart) → q ≤ start → corner before u q ≡ Some c → inside c ≡ true) → ((q : ℕ) (c : Dart) → corner before v q ≡ Some c → inside c ≡ true)
    → KeepsFaces before now (unmoved inside) × KeepsEnds before now (unmoved inside) u v start
