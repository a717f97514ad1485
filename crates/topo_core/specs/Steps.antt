-- What each call does to a picture, and what it answers.
use Rattle.std.specs.Prelude.{◌≡◌, ℕ, ◌+◌, ◌<◌, ◌≤◌, ◌==◌, nat_lt, Bool, not, ◌&&◌, cond, List, [], ◌∷◌, length, Option, Some, None, is_some, true, ◌⊎◌}
use Rattle.topo_core.specs.declared.rows.Rows.{Rows}
use Rattle.topo_core.specs.declared.routes.Route.{Route}
use Rattle.topo_core.specs.declared.limits.Limits.{Limits}
use Rattle.topo_core.specs.declared.calls.Call.{Call}
use Rattle.topo_core.specs.declared.calls.Call.TheVariants.{Grow, Insert, Delete}
use Rattle.topo_core.specs.declared.calls.Reply.{Reply}
use Rattle.topo_core.specs.declared.calls.Reply.TheVariants.{Grown, Inserted as Put, Deleted, Refused}
use Rattle.topo_core.specs.declared.calls.Refusal.{Refusal}
use Rattle.topo_core.specs.declared.calls.Refusal.TheVariants.{NoVertex, SameEnds, NoPosition, NoEdge, BadKind, Cut, Full, NoRoute}
use Rattle.topo_core.specs.Picture.{rotation, edge_row}
use Rattle.topo_core.specs.Routes.{Pricing, IsFirst, HasNoRoute}
use Rattle.topo_core.specs.Changes.{shown, grown, without, IsCut}
use Rattle.topo_core.specs.declared.rows.TheConstants.{KINDS}

-- ---- The order of refusals

-- the first refusal whose cause holds
abbrev pub first_cause : List (Bool × Refusal) → Option Refusal
first_cause [] = None
first_cause (cause ∷ causes) = cond cause.0 (Some cause.1) (first_cause causes)

abbrev pub has_vertex : Rows → ℕ → Bool
has_vertex rows v = nat_lt v (length rows.rotations)

-- what refuses a growth
abbrev pub grow_refusal : Limits → Rows → ℕ → ℕ → ℕ → Option Refusal
grow_refusal limits rows u p kind = first_cause
    ((not (has_vertex rows u), NoVertex)
    ∷ (not (nat_lt p (length (rotation rows u))), NoPosition)
    ∷ (not (nat_lt kind KINDS), BadKind)
    ∷ (not (nat_lt (length rows.rotations) limits.vertices && nat_lt rows.next_edge limits.edges), Full)
    ∷ [])

-- what refuses an insertion before a route is looked for
abbrev pub insert_refusal : Limits → Rows → ℕ → ℕ → ℕ → Option Refusal
insert_refusal limits rows u v kind = first_cause
    ((not (has_vertex rows u && has_vertex rows v), NoVertex)
    ∷ (u == v, SameEnds)
    ∷ (not (nat_lt kind KINDS), BadKind)
    ∷ (not (nat_lt rows.next_edge limits.edges), Full)
    ∷ [])

-- the ids left suffice for the route's crossings
abbrev pub HasRoomFor : Limits → Rows → Route → Type 0
HasRoomFor limits rows r = rows.next_crossing + length r.crossed ≤ limits.crossings

-- the first route needs more crossings than there are ids left
pub record NeedsMore (price : Pricing) (limits : Limits) (rows : Rows) (u v : ℕ) : Type 0 where
  pub route : Route
  pub cost : ℕ
  pub first : IsFirst price rows u v route cost
  pub too_many : limits.crossings < rows.next_crossing + length route.crossed

-- ---- Steps

-- the call is refused for this reason, the first that holds
abbrev pub IsRefused : Pricing → Limits → Rows → Call → Refusal → Type 0
IsRefused price limits p (Grow u position kind) why = grow_refusal limits p u position kind ≡ Some why
IsRefused price limits p (Insert u v kind) why = (insert_refusal limits p u v kind ≡ Some why)
    ⊎ (((insert_refusal limits p u v kind ≡ None) × (why ≡ NoRoute) × HasNoRoute price p u v)
    ⊎ ((insert_refusal limits p u v kind ≡ None) × (why ≡ Full) × NeedsMore price limits p u v))
IsRefused price limits p (Delete e) why = ((edge_row p e ≡ None) × (why ≡ NoEdge))
    ⊎ ((i : ℕ) × (is_some (edge_row p e) ≡ true) × (why ≡ Cut i) × IsCut p e i)

-- From the picture p the call is answered by the reply, and the picture is then q. A refused call changes nothing.
abbrev pub Step : Pricing → Limits → Rows → Call → Reply → Rows → Type 0
Step price limits p call (Refused why) q = IsRefused price limits p call why × (q ≡ p)
Step price limits p (Grow u position kind) (Grown vertex edge) q = (grow_refusal limits p u position kind ≡ None)
    × (vertex ≡ length p.rotations) × (edge ≡ p.next_edge) × (q ≡ grown p u position kind)
Step price limits p (Insert u v kind) (Put made) q = (insert_refusal limits p u v kind ≡ None)
    × IsFirst price p u v made.route made.price × HasRoomFor limits p made.route
    × (made.id ≡ p.next_edge) × (q ≡ shown p u v kind made.route)
Step price limits p (Delete e) (Deleted edge) q = (is_some (edge_row p e) ≡ true) × ((i : ℕ) → IsCut p e i → ⊥)
    × (edge ≡ e) × (q ≡ without p e)
-- no other reply is given
Step price limits p (Grow u position kind) (Put made) q = ⊥
Step price limits p (Grow u position kind) (Deleted edge) q = ⊥
Step price limits p (Insert u v kind) (Grown vertex edge) q = ⊥
Step price limits p (Insert u v kind) (Deleted edge) q = ⊥
Step price limits p (Delete e) (Grown vertex edge) q = ⊥
Step price limits p (Delete e) (Put made) q = ⊥
