-- Routes: walks in the dual graph, what they cost, and which of them is first.
use Rattle.std.specs.Prelude.{◌≡◌, ◌≢◌, ℕ, ◌+◌, true, ◌≤◌, ◌⊎◌, List, [], ◌∷◌, Some}
use Rattle.std.specs.List.{AllByRecursion}
use Rattle.std.specs.Ordering.{nat_cmp, ordering_then}
use Rattle.std.specs.Cmp.Lexicographic.{slice_cmp}
use Rattle.std.specs.declared.cmp.Ordering.{Ordering}
use Rattle.std.specs.declared.cmp.Ordering.TheVariants.{Greater}
use Rattle.topo_core.specs.declared.darts.Dart.{Dart}
use Rattle.topo_core.specs.declared.rows.Rows.{Rows}
use Rattle.topo_core.specs.declared.rows.EdgeRow.{EdgeRow}
use Rattle.topo_core.specs.declared.rows.Facts.{Facts}
use Rattle.topo_core.specs.declared.routes.Route.{Route}
use Rattle.topo_core.specs.Darts.{dart_twin, dart_cmp}
use Rattle.topo_core.specs.Systems.{System, SameFace, face_step, has_dart}
use Rattle.topo_core.specs.Picture.{darts, corner, edge_at, system}
use Rattle.topo_core.specs.declared.rows.TheConstants.{MAX_PRICE}

-- ---- Walks through the faces

-- crossing the darts in order leads from the face of c to the face of d
abbrev pub Crosses : System → Dart → List Dart → Dart → Type 0
Crosses s c [] d = SameFace s c d
Crosses s c (x ∷ xs) d = SameFace s c x × Crosses s (dart_twin x) xs d

-- the route leads from a corner of u to a corner of v; prices do not matter
pub record IsRoute (rows : Rows) (u v : ℕ) (r : Route) : Type 0 where
  pub from : Dart
  pub to : Dart
  pub starts : corner rows u r.start ≡ Some from
  pub ends : corner rows v r.end ≡ Some to
  pub walk : Crosses (system rows) from r.crossed to

-- the walk from the face of c meets no face twice, the face of c among them
abbrev pub MeetsFacesOnce : System → Dart → List Dart → Type 0
MeetsFacesOnce s c [] = Unit {0}
MeetsFacesOnce s c (x ∷ xs) = AllByRecursion (λ y. SameFace s c (dart_twin y) → ⊥) (x ∷ xs) × MeetsFacesOnce s (dart_twin x) xs

-- a route that meets no face twice
pub record IsSimpleRoute (rows : Rows) (u v : ℕ) (r : Route) : Type 0 where
  pub route : IsRoute rows u v r
  pub once : MeetsFacesOnce (system rows) route.from r.crossed

-- ---- Prices

-- these are the facts of the edge
pub record AreFactsOf (row : EdgeRow) (facts : Facts) : Type 0 where
  pub id : facts.id ≡ row.id
  pub a : facts.a ≡ row.a
  pub b : facts.b ≡ row.b
  pub kind : facts.kind ≡ row.kind

-- what the stored closure answers: crossing an edge with these facts costs this number. An edge may have no price
abbrev pub Pricing : Type 1
Pricing = Facts → ℕ → Type 0

-- the promise: a price is from 1 to MAX_PRICE, and an edge has at most one
pub record KeepsPromise (price : Pricing) : Type 0 where
  pub positive : (facts : Facts) (n : ℕ) → price facts n → 1 ≤ n
  pub at_most : (facts : Facts) (n : ℕ) → price facts n → n ≤ MAX_PRICE
  pub single : (facts : Facts) (m n : ℕ) → price facts m → price facts n → m ≡ n

-- crossing the dart costs n
pub record Price (price : Pricing) (rows : Rows) (d : Dart) (n : ℕ) : Type 0 where
  pub facts : Facts
  pub known : AreFactsOf (edge_at rows d.edge) facts
  pub asked : price facts n

-- the cost: the prices of the darts sum up to n
abbrev pub Costs : Pricing → Rows → List Dart → ℕ → Type 0
Costs price rows [] n = n ≡ 0
Costs price rows (d ∷ ds) n = (p m : ℕ) × Price price rows d p × Costs price rows ds m × (n ≡ p + m)

-- ---- Least and first

-- a route from u to v that costs n: each edge that it crosses has a price
pub record IsPricedRoute (price : Pricing) (rows : Rows) (u v : ℕ) (r : Route) (n : ℕ) : Type 0 where
  pub route : IsRoute rows u v r
  pub cost : Costs price rows r.crossed n

-- no route from u to v has a cost
abbrev pub HasNoRoute : Pricing → Rows → ℕ → ℕ → Type 0
HasNoRoute price rows u v = (r : Route) (n : ℕ) → IsPricedRoute price rows u v r n → ⊥

-- by start position, then by the crossed darts in canonical order, then by end position
abbrev pub route_cmp : Route → Route → Ordering
route_cmp r s = ordering_then (nat_cmp r.start s.start) (ordering_then (slice_cmp dart_cmp r.crossed s.crossed) (nat_cmp r.end s.end))

-- a route of cost n, and no route from u to v costs less
pub record IsLeast (price : Pricing) (rows : Rows) (u v : ℕ) (r : Route) (n : ℕ) : Type 0 where
  pub priced : IsPricedRoute price rows u v r n
  pub least : (other : Route) (m : ℕ) → IsPricedRoute price rows u v other m → n ≤ m

-- the least route that no other least route precedes
pub record IsFirst (price : Pricing) (rows : Rows) (u v : ℕ) (r : Route) (n : ℕ) : Type 0 where
  pub is_least : IsLeast price rows u v r n
  pub first : (other : Route) → IsPricedRoute price rows u v other n → route_cmp r other ≢ Greater

-- ---- Heights

-- a walk of cost n leads from the face of d to a corner of v
pub record Reaches (price : Pricing) (rows : Rows) (v : ℕ) (d : Dart) (n : ℕ) : Type 0 where
  pub crossed : List Dart
  pub position : ℕ
  pub to : Dart
  pub ends : corner rows v position ≡ Some to
  pub walk : Crosses (system rows) d crossed to
  pub cost : Costs price rows crossed n

-- the height of a dart from which no walk of a cost leads to v: the greatest 64-bit number
abbrev pub unreached : ℕ
unreached = 18446744073709551615

-- h is the least cost from the face of d to a face at v
abbrev pub IsHeight : Pricing → Rows → ℕ → Dart → ℕ → Type 0
IsHeight price rows v d h = (Reaches price rows v d h × ((n : ℕ) → Reaches price rows v d n → h ≤ n))
    ⊎ ((h ≡ unreached) × ((n : ℕ) → Reaches price rows v d n → ⊥))

-- a certificate: heights that are equal along each face, 0 at the corners of v, and such that no dart with a price is
-- higher than its twin by more than that price. So no route costs less than the height of the corner where it starts
pub record IsCertificate (price : Pricing) (rows : Rows) (v : ℕ) (height : Dart → ℕ) : Type 0 where
  pub even : (d : Dart) → has_dart (darts rows) d ≡ true → height (face_step (system rows) d) ≡ height d
  pub gentle : (d : Dart) (p : ℕ) → has_dart (darts rows) d ≡ true → Price price rows d p → height d ≤ p + height (dart_twin d)
  pub target : (p : ℕ) (c : Dart) → corner rows v p ≡ Some c → height c ≡ 0
