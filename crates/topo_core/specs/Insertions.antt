-- What an insertion asks of a route, and where the darts of a picture stand once it shows the new edge.
use Rattle.std.specs.Prelude.{◌≡◌, ◌≢◌, ◌⊎◌, ℕ, ◌+◌, ◌-◌, ◌<◌, ◌≤◌, ◌==◌, Bool, true, false, cond, ◌&&◌, List, [], ◌∷◌, length, slice_index_or, Some}
use Rattle.std.specs.List.{AllByRecursion}
use Rattle.topo_core.specs.declared.darts.Dart.{Dart}
use Rattle.topo_core.specs.declared.darts.Way.{Way}
use Rattle.topo_core.specs.declared.darts.Way.TheVariants.{Forward, Back}
use Rattle.topo_core.specs.declared.rows.Rows.{Rows}
use Rattle.topo_core.specs.declared.routes.Route.{Route}
use Rattle.topo_core.specs.Items.{IsIn}
use Rattle.topo_core.specs.Darts.{dart_twin, reversed}
use Rattle.topo_core.specs.Systems.{has_dart, turn}
use Rattle.topo_core.specs.Picture.{darts, rotation, edge_at, system, ahead, behind, corner}
use Rattle.topo_core.specs.Lawful.{IsWellFormed}
use Rattle.topo_core.specs.Routes.{IsSimpleRoute}
use Rattle.topo_core.specs.Changes.{shown, numbered}
use Rattle.topo_core.specs.declared.rows.TheConstants.{KINDS}

-- ---- What is asked of a route

abbrev pub same_segment : Dart → Dart → Bool
same_segment c d = c.edge == d.edge && c.seg == d.seg

-- no segment is crossed twice
abbrev pub CrossesOnce : List Dart → Type 0
CrossesOnce [] = Unit {0}
CrossesOnce (d ∷ ds) = AllByRecursion (λ c. same_segment d c ≡ false) ds × CrossesOnce ds

-- an edge of this kind can be shown from u to v along the route: its corners and its crossed darts are there
pub record IsInsertable (rows : Rows) (u v kind : ℕ) (r : Route) : Type 0 where
  pub u_there : u < length rows.rotations
  pub v_there : v < length rows.rotations
  pub ends_apart : u ≢ v
  pub known : kind < KINDS
  pub start : r.start < length (rotation rows u)
  pub end : r.end < length (rotation rows v)
  pub crossed : AllByRecursion (λ d. has_dart (darts rows) d ≡ true) r.crossed
  pub once : CrossesOnce r.crossed

-- a route that meets no face twice crosses no segment twice
abbrev pub SimpleRoutesAreInsertable : Type 0
SimpleRoutesAreInsertable = (rows : Rows) (u v kind : ℕ) (r : Route) → IsWellFormed rows → u < length rows.rotations → v < length rows.rotations
    → u ≢ v → kind < KINDS
    → IsSimpleRoute rows u v r → IsInsertable rows u v kind r

-- the picture that shows the new edge is well formed
abbrev pub InsertionKeepsForm : Type 0
InsertionKeepsForm = (rows : Rows) (u v kind : ℕ) (r : Route) → IsWellFormed rows → IsInsertable rows u v kind r → IsWellFormed (shown rows u v kind r)

-- ---- Where the darts stand

-- the dart of q on edge e that starts at the same point as the dart of segment i and this way, where the edge has this path before
abbrev pub lifted_on : Rows → ℕ → List ℕ → ℕ → Way → Dart
lifted_on q e path i Forward = cond (i == 0) (record { edge = e; seg = 0; way = Forward }) (ahead q e (slice_index_or path (i - 1) 0))
lifted_on q e path i Back =
    cond (i == length path) (record { edge = e; seg = length (edge_at q e).crossings; way = Back }) (behind q e (slice_index_or path i 0))

-- the dart of q on the same edge that starts at the same point as a dart of p, where q has more crossings on its edges
abbrev pub lifted : Rows → Rows → Dart → Dart
lifted p q d = lifted_on q d.edge (edge_at p d.edge).crossings d.seg d.way

-- where the crossing x of the edge of d parts its path: the dart that goes on in the direction of d, and the one that goes back
abbrev pub onward_by : Rows → ℕ → ℕ → Way → Dart
onward_by q x e Forward = ahead q e x
onward_by q x e Back = behind q e x

abbrev pub onward : Rows → ℕ → Dart → Dart
onward q x d = onward_by q x d.edge d.way

abbrev pub backward : Rows → ℕ → Dart → Dart
backward q x d = onward_by q x d.edge (reversed d.way)

-- ---- How they turn

-- the new edge is out of the way: round the point of d the dart e follows, straight or after a dart of edge f
abbrev pub FollowsBut : Rows → ℕ → Dart → Dart → Type 0
FollowsBut q f d e = (turn (system q) d ≡ e) ⊎ (((turn (system q) d).edge ≡ f) × (turn (system q) (turn (system q) d) ≡ e))

-- q shows p and the new edge f along the route. The darts of p stand in q as lifted, those round the new crossings are new
pub record ShowsTurns (p : Rows) (f u v : ℕ) (r : Route) (q : Rows) : Type 0 where
  -- the darts of p, lifted
  pub lifts : (d : Dart) → has_dart (darts p) d ≡ true → has_dart (darts q) (lifted p q d) ≡ true
  pub lifts_apart : (c d : Dart) → has_dart (darts p) c ≡ true → has_dart (darts p) d ≡ true → lifted p q c ≡ lifted p q d → c ≡ d
  pub old_edges : (d : Dart) → has_dart (darts p) d ≡ true → d.edge ≢ f
  pub turns : (d : Dart) → has_dart (darts p) d ≡ true → FollowsBut q f (lifted p q d) (lifted p q (turn (system p) d))
  pub uncrossed : (d : Dart) → has_dart (darts p) d ≡ true → AllByRecursion (λ c. same_segment c d ≡ false) r.crossed
      → lifted p q (dart_twin d) ≡ dart_twin (lifted p q d)
  -- the darts of crossed edges at the new crossings
  pub crossed_there : (x : ℕ) (d : Dart) → IsIn (x, d) (numbered p r) → (has_dart (darts q) (onward q x d) ≡ true)
      × (has_dart (darts q) (backward q x d) ≡ true)
  pub before_crossing : (x : ℕ) (d : Dart) → IsIn (x, d) (numbered p r) → dart_twin (lifted p q d) ≡ backward q x d
  pub after_crossing : (x : ℕ) (d : Dart) → IsIn (x, d) (numbered p r) → lifted p q (dart_twin d) ≡ dart_twin (onward q x d)
  pub new_points : (x : ℕ) (d c : Dart) → IsIn (x, d) (numbered p r) → has_dart (darts p) c ≡ true → (lifted p q c ≢ onward q x d)
      × (lifted p q c ≢ backward q x d)
  pub onward_apart : (x y : ℕ) (c d : Dart) → IsIn (x, c) (numbered p r) → IsIn (y, d) (numbered p r) → onward q x c ≡ onward q y d → x ≡ y
  pub backward_apart : (x y : ℕ) (c d : Dart) → IsIn (x, c) (numbered p r) → IsIn (y, d) (numbered p r) → backward q x c ≡ backward q y d → x ≡ y
  pub not_both : (x y : ℕ) (c d : Dart) → IsIn (x, c) (numbered p r) → IsIn (y, d) (numbered p r) → onward q x c ≢ backward q y d
  -- the new edge: at crossing x it comes in behind and goes out ahead
  pub newcomer : (x : ℕ) (d : Dart) → IsIn (x, d) (numbered p r) → (ahead q f x ≡ record { edge = f; seg = x - p.next_crossing + 1; way = Forward })
      × (behind q f x ≡ record { edge = f; seg = x - p.next_crossing; way = Back })
  pub newcomer_there : (i : ℕ) (way : Way) → i ≤ length r.crossed → has_dart (darts q) (record { edge = f; seg = i; way = way }) ≡ true
  pub round_ahead : (x : ℕ) (d : Dart) → IsIn (x, d) (numbered p r) → (turn (system q) (onward q x d) ≡ ahead q f x)
      × (turn (system q) (ahead q f x) ≡ backward q x d)
  pub round_behind : (x : ℕ) (d : Dart) → IsIn (x, d) (numbered p r) → (turn (system q) (backward q x d) ≡ behind q f x)
      × (turn (system q) (behind q f x) ≡ onward q x d)
  pub starts : (c : Dart) → corner p u r.start ≡ Some c → turn (system q) (record { edge = f; seg = 0; way = Forward }) ≡ lifted p q c
  pub ends : (c : Dart) → corner p v r.end ≡ Some c → turn (system q) (record { edge = f; seg = length r.crossed; way = Back }) ≡ lifted p q c
  -- there are no others
  pub no_others : (d : Dart) → has_dart (darts q) d ≡ true → ((d.edge ≡ f) × (d.seg ≤ length r.crossed))
      ⊎ (((c : Dart) × (has_dart (darts p) c ≡ true) × (d ≡ lifted p q c))
      ⊎ ((x : ℕ) × (c : Dart) × IsIn (x, c) (numbered p r) × ((d ≡ onward q x c) ⊎ (d ≡ backward q x c))))

-- an insertion changes the turn along its route and nowhere else
abbrev pub InsertionShowsTurns : Type 0
InsertionShowsTurns = (rows : Rows) (u v kind : ℕ) (r : Route) → IsWellFormed rows → IsInsertable rows u v kind r
    → ShowsTurns rows rows.next_edge u v r (shown rows u v kind r)
