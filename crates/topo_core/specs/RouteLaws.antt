-- What tests on heights say of routes, and the laws of routes: each is proved as the contract of a function without a body.
use Rattle.std.specs.Prelude.{◌≡◌, ◌≢◌, ℕ, ◌+◌, ◌≤◌, ◌<◌, true, List, [], ◌∷◌, length, Some}
use Rattle.std.specs.declared.cmp.Ordering.TheVariants.{Greater}
use Rattle.topo_core.specs.declared.darts.Dart.{Dart}
use Rattle.topo_core.specs.declared.rows.Rows.{Rows}
use Rattle.topo_core.specs.declared.routes.Route.{Route}
use Rattle.topo_core.specs.Darts.{dart_twin, dart_cmp}
use Rattle.topo_core.specs.Systems.{SameFace, has_dart}
use Rattle.topo_core.specs.Picture.{darts, corner, system}
use Rattle.topo_core.specs.Lawful.{IsEmbedding, IsWellFormed}
use Rattle.topo_core.specs.Routes.{Pricing, KeepsPromise, Price, Costs, IsPricedRoute, IsLeast, IsFirst, IsSimpleRoute, IsCertificate}

-- ---- Routes by heights

-- crossing d costs just what its height is above that of its twin
pub record IsTight (price : Pricing) (rows : Rows) (height : Dart → ℕ) (d : Dart) : Type 0 where
  pub cost : ℕ
  pub asked : Price price rows d cost
  pub drop : height d ≡ cost + height (dart_twin d)

-- of the tight darts of its face, the walk from the face of c crosses the first in canonical order, each time
abbrev pub TakesFirstDarts : Pricing → Rows → (Dart → ℕ) → Dart → List Dart → Type 0
TakesFirstDarts price rows height c [] = Unit {0}
TakesFirstDarts price rows height c (x ∷ xs) =
    ((y : Dart) → has_dart (darts rows) y ≡ true → SameFace (system rows) c y → IsTight price rows height y → dart_cmp x y ≢ Greater)
    × TakesFirstDarts price rows height (dart_twin x) xs

-- the dart whose face the walk from the face of c arrives in
abbrev pub arrival : Dart → List Dart → Dart
arrival c [] = c
arrival c (x ∷ xs) = arrival (dart_twin x) xs

-- A route whose cost n is the least height of a corner of u, from the first such corner, across the first tight darts, to the
-- first corner of v in the face where it arrives.
pub record IsFirstByHeights (price : Pricing) (rows : Rows) (u v : ℕ) (height : Dart → ℕ) (r : Route) (n : ℕ) : Type 0 where
  pub priced : IsPricedRoute price rows u v r n
  pub least_height : (p : ℕ) (c : Dart) → corner rows u p ≡ Some c → n ≤ height c
  pub first_start : (p : ℕ) (c : Dart) → p < r.start → corner rows u p ≡ Some c → height c ≢ n
  pub first_darts : TakesFirstDarts price rows height priced.route.from r.crossed
  pub first_end : (p : ℕ) (c : Dart) → p < r.end → corner rows v p ≡ Some c → SameFace (system rows) (arrival priced.route.from r.crossed) c → ⊥

-- ---- The laws

-- the corners of a vertex are named by darts of the picture
abbrev pub CornersAreDarts : Type 0
CornersAreDarts = (rows : Rows) → IsWellFormed rows → (v p : ℕ) (c : Dart) → corner rows v p ≡ Some c → has_dart (darts rows) c ≡ true

-- no route costs less than the height of the corner where it starts
abbrev pub CertificateBounds : Pricing → Type 0
CertificateBounds price = (rows : Rows) (u v : ℕ) (height : Dart → ℕ) → IsWellFormed rows → IsCertificate price rows v height
    → (r : Route) (n : ℕ) (c : Dart) → IsPricedRoute price rows u v r n → corner rows u r.start ≡ Some c → height c ≤ n

-- under a certificate, a route that is first by its heights is the first of the least routes
abbrev pub FirstByHeightsIsFirst : Pricing → Type 0
FirstByHeightsIsFirst price = (rows : Rows) (u v : ℕ) (height : Dart → ℕ) → KeepsPromise price → IsWellFormed rows → IsCertificate price rows v height
    → (r : Route) (n : ℕ) → IsFirstByHeights price rows u v height r n → IsFirst price rows u v r n

-- prices are at least 1, so a walk costs at least the number of darts that it crosses
abbrev pub CostsAtLeastLength : Pricing → Type 0
CostsAtLeastLength price = (rows : Rows) → KeepsPromise price → (ds : List Dart) (n : ℕ) → Costs price rows ds n → length ds ≤ n

-- an edge has at most one price, so a walk has at most one cost
abbrev pub HasOneCost : Pricing → Type 0
HasOneCost price = (rows : Rows) → KeepsPromise price → (ds : List Dart) (m n : ℕ) → Costs price rows ds m → Costs price rows ds n → m ≡ n

-- between two visits of one face a walk can be cut short, so a least route meets no face twice
abbrev pub LeastIsSimple : Pricing → Type 0
LeastIsSimple price = (rows : Rows) → KeepsPromise price → IsWellFormed rows → (u v : ℕ) (r : Route) (n : ℕ) → IsLeast price rows u v r n
    → IsSimpleRoute rows u v r

-- every edge has a price
abbrev pub IsPriced : Pricing → Rows → Type 0
IsPriced price rows = (d : Dart) → has_dart (darts rows) d ≡ true → (n : ℕ) × Price price rows d n

-- where every edge has a price, a route with a cost leads from any vertex of a connected picture to any other
abbrev pub RoutesExist : Pricing → Type 0
RoutesExist price = (rows : Rows) (u v : ℕ) → IsEmbedding rows → IsPriced price rows → u < length rows.rotations → v < length rows.rotations
    → (r : Route) × (n : ℕ) × IsPricedRoute price rows u v r n
