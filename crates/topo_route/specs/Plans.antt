-- What a plan has to be, and what the check says of one.
use Rattle.std.specs.Prelude.{◌≡◌, ◌≢◌, ℕ, ◌<◌, ◌≤◌, ◌+◌, true, List, length, min, Some, slice_index}
use Rattle.topo_core.specs.declared.darts.Dart.{Dart}
use Rattle.topo_core.specs.declared.rows.Rows.{Rows}
use Rattle.topo_core.specs.Darts.{dart_twin}
use Rattle.topo_core.specs.Systems.{SameFace, face_step, has_dart}
use Rattle.topo_core.specs.Picture.{corner, darts, index_of, system}
use Rattle.topo_core.specs.Routes.{Pricing, Price, IsPricedRoute, IsFirst, IsHeight, IsCertificate, Reaches, unreached}
use Rattle.topo_core.specs.RouteLaws.{TakesFirstDarts, arrival, IsFirstByHeights}
use Rattle.topo_route.specs.Names.{IsName, Named, canonical, dart_named, height_of, next_name, twin_name}
use Rattle.topo_route.specs.declared.plan.Plan.{Plan}
use Rattle.topo_route.specs.declared.plan.PlanFault.{PlanFault}
use Rattle.topo_route.specs.declared.plan.PlanFault.TheVariants.{WrongLength, UnevenFace, TooSteep, TargetNotZero, NotARoute, NotLeast, NotFirst}

-- the height of a dart in a list that has one for each dart in canonical order
abbrev pub height_in : Rows → List ℕ → Dart → ℕ
height_in rows heights d = slice_index heights (index_of rows d)

-- heights as a search finds them: the least costs to the target, and a certificate of it
pub record AreHeights (price : Pricing) (g : Named) (v : ℕ) (heights : List ℕ) : Type 0 where
  pub one_each : length heights ≡ g.size
  pub exact : (d : Dart) → has_dart (darts g.rows) d ≡ true → IsHeight price g.rows v d (height_of g heights d)
  pub certificate : IsCertificate price g.rows v (height_of g heights)
  pub unreached_none : (d : Dart) → has_dart (darts g.rows) d ≡ true → height_of g heights d ≡ unreached → (n : ℕ) → Reaches price g.rows v d n → ⊥

-- Heights of which those below the tops that darts have are the least costs to the target: a walk costs as much, and cut off at
-- the tops they are a certificate. With a dart its face is below the tops, and so is its twin where crossing costs no more
-- than the certificate falls.
pub record AreHeightsBelow (price : Pricing) (g : Named) (v : ℕ) (top : ℕ → ℕ) (heights : List ℕ) : Type 0 where
  pub one_each : length heights ≡ g.size
  pub reaches : (d : Dart) → has_dart (darts g.rows) d ≡ true → height_of g heights d < top (g.name d) → Reaches price g.rows v d (height_of g heights d)
  pub certificate : IsCertificate price g.rows v (λ d. min (height_of g heights d) (top (g.name d)))
  pub round : (k : ℕ) → IsName g k → slice_index heights k < top k → slice_index heights (next_name g k) < top (next_name g k)
  pub down : (k c : ℕ) → IsName g k → slice_index heights k < top k → Price price g.rows (dart_named g k) c
      → c + min (slice_index heights (twin_name g k)) (top (twin_name g k)) ≤ slice_index heights k → slice_index heights (twin_name g k) < top (twin_name g k)

-- a plan as a search makes it
pub record IsPlan (price : Pricing) (rows : Rows) (u v : ℕ) (plan : Plan) : Type 0 where
  pub heights : AreHeights price (canonical rows) v plan.heights
  pub first : IsFirst price rows u v plan.route plan.price
  pub by_heights : IsFirstByHeights price rows u v (height_in rows plan.heights) plan.route plan.price

-- ---- Corners and heights

-- the corners of v have height 0
abbrev pub IsZeroAt : Rows → ℕ → (Dart → ℕ) → Type 0
IsZeroAt rows v height = (p : ℕ) (c : Dart) → corner rows v p ≡ Some c → height c ≡ 0

-- the cost is the least height of a corner of u
pub record IsLeastAt (rows : Rows) (u : ℕ) (height : Dart → ℕ) (cost : ℕ) : Type 0 where
  pub position : ℕ
  pub from : Dart
  pub there : corner rows u position ≡ Some from
  pub is_height : height from ≡ cost
  pub least : (p : ℕ) (c : Dart) → corner rows u p ≡ Some c → cost ≤ height c

-- no corner of u before this position has the height
abbrev pub HasNoneBefore : Rows → ℕ → (Dart → ℕ) → ℕ → ℕ → Type 0
HasNoneBefore rows u height start cost = (p : ℕ) (c : Dart) → p < start → corner rows u p ≡ Some c → height c ≢ cost

-- ---- The seven tests of a plan, in their order

-- one height for each dart
abbrev pub HasOneEach : Rows → List ℕ → Type 0
HasOneEach rows heights = length heights ≡ length (darts rows)

-- each dart has the height of the next along its face
abbrev pub IsEven : Rows → List ℕ → Type 0
IsEven rows heights = (d : Dart) → has_dart (darts rows) d ≡ true → height_in rows heights (face_step (system rows) d) ≡ height_in rows heights d

-- no dart with a price is higher than its twin by more than that price
abbrev pub IsGentle : Pricing → Rows → List ℕ → Type 0
IsGentle price rows heights = (d : Dart) (p : ℕ) → has_dart (darts rows) d ≡ true → Price price rows d p
    → height_in rows heights d ≤ p + height_in rows heights (dart_twin d)

-- the corners of the target have height 0
abbrev pub MeetsTarget : Rows → ℕ → List ℕ → Type 0
MeetsTarget rows v heights = IsZeroAt rows v (height_in rows heights)

-- the cost is the least height of a corner at the start
abbrev pub IsLeastHeight : Rows → ℕ → List ℕ → ℕ → Type 0
IsLeastHeight rows u heights cost = IsLeastAt rows u (height_in rows heights) cost

-- no corner at the start before this position has the height
abbrev pub HasFirstStart : Rows → ℕ → List ℕ → ℕ → ℕ → Type 0
HasFirstStart rows u heights start cost = HasNoneBefore rows u (height_in rows heights) start cost

-- no corner at the target before this position lies in the face of the dart
abbrev pub HasFirstEnd : Rows → ℕ → ℕ → Dart → Type 0
HasFirstEnd rows v end last = (p : ℕ) (c : Dart) → p < end → corner rows v p ≡ Some c → SameFace (system rows) last c → ⊥

-- no start, crossed dart or end before those of the route that leaves from this corner would do
pub record ComesFirst (price : Pricing) (rows : Rows) (u v : ℕ) (plan : Plan) (from : Dart) : Type 0 where
  pub first_start : HasFirstStart rows u plan.heights plan.route.start plan.price
  pub first_darts : TakesFirstDarts price rows (height_in rows plan.heights) from plan.route.crossed
  pub first_end : HasFirstEnd rows v plan.route.end (arrival from plan.route.crossed)

module _ (price : Pricing) (rows : Rows) (u v : ℕ) (plan : Plan) where
  -- the plan fails this test, and none before it
  abbrev pub FailsFirst : PlanFault → Type 0
  FailsFirst WrongLength = HasOneEach rows plan.heights → ⊥
  FailsFirst UnevenFace = HasOneEach rows plan.heights × (IsEven rows plan.heights → ⊥)
  FailsFirst TooSteep = HasOneEach rows plan.heights × IsEven rows plan.heights × (IsGentle price rows plan.heights → ⊥)
  FailsFirst TargetNotZero = HasOneEach rows plan.heights × IsEven rows plan.heights × IsGentle price rows plan.heights × (MeetsTarget rows v plan.heights → ⊥)
  FailsFirst NotARoute = HasOneEach rows plan.heights × IsCertificate price rows v (height_in rows plan.heights)
      × (IsPricedRoute price rows u v plan.route plan.price → ⊥)
  FailsFirst NotLeast = HasOneEach rows plan.heights × IsCertificate price rows v (height_in rows plan.heights)
      × IsPricedRoute price rows u v plan.route plan.price
      × (IsLeastHeight rows u plan.heights plan.price → ⊥)
  FailsFirst NotFirst = HasOneEach rows plan.heights × IsCertificate price rows v (height_in rows plan.heights) × IsLeastHeight rows u plan.heights plan.price
      × (priced : IsPricedRoute price rows u v plan.route plan.price) × (ComesFirst price rows u v plan priced.route.from → ⊥)

  -- the plan passes every test
  pub record PassesAll : Type 0 where
    pub one_each : HasOneEach rows plan.heights
    pub certificate : IsCertificate price rows v (height_in rows plan.heights)
    pub least : IsLeastHeight rows u plan.heights plan.price
    pub priced : IsPricedRoute price rows u v plan.route plan.price
    pub comes_first : ComesFirst price rows u v plan priced.route.from
