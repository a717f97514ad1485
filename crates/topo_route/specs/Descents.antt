-- The parts of a search's route.
use Rattle.std.specs.Prelude.{◌≡◌, ◌≢◌, ℕ, ◌<◌, ◌≤◌, true, List, Option, Some, IfSome, IsSomeAnd, ◌++◌, ◌⊎◌, slice_index}
use Rattle.std.specs.declared.cmp.Ordering.TheVariants.{Greater, Less}
use Rattle.topo_core.specs.declared.darts.Dart.{Dart}
use Rattle.topo_core.specs.declared.rows.Rows.{Rows}
use Rattle.topo_core.specs.Darts.{dart_cmp}
use Rattle.topo_core.specs.Picture.{corner, darts, system}
use Rattle.topo_core.specs.RouteLaws.{IsFirstByHeights, IsTight, TakesFirstDarts, arrival}
use Rattle.topo_core.specs.Routes.{Costs, Crosses, HasNoRoute, IsFirst, Pricing, unreached}
use Rattle.topo_core.specs.Systems.{SameFace, has_dart}
use Rattle.topo_route.specs.Names.{IsName, Named, dart_named, height_of}
use Rattle.topo_route.specs.Plans.{AreHeightsBelow, HasFirstEnd, HasNoneBefore}
use Rattle.topo_route.specs.declared.plan.PricedRoute.{PricedRoute}

-- no corner of u is reached
abbrev pub HasNoStart : Named → ℕ → List ℕ → Type 0
HasNoStart g u heights = (p : ℕ) (c : Dart) → corner g.rows u p ≡ Some c → height_of g heights c ≡ unreached

-- the first corner of u with the least height of its corners
pub record IsStart (g : Named) (u : ℕ) (heights : List ℕ) (position from : ℕ) : Type 0 where
  pub name : IsName g from
  pub there : corner g.rows u position ≡ Some (dart_named g from)
  pub reached : height_of g heights (dart_named g from) ≢ unreached
  pub least : (p : ℕ) (c : Dart) → corner g.rows u p ≡ Some c → height_of g heights (dart_named g from) ≤ height_of g heights c
  pub first : HasNoneBefore g.rows u (height_of g heights) position (height_of g heights (dart_named g from))

-- heights that are known as far up as a dart
pub record AreHeightsUpTo (price : Pricing) (g : Named) (v : ℕ) (heights : List ℕ) (at : ℕ) : Type 0 where
  pub top : ℕ → ℕ
  pub known : AreHeightsBelow price g v top heights
  pub below : slice_index heights at < top at

-- Heights that are known as far up as the first corner of u with the least height, which is below the tops of all corners of u.
-- Where no corner of u is reached there is no route.
pub record AreHeightsFor (price : Pricing) (g : Named) (u v : ℕ) (heights : List ℕ) : Type 0 where
  pub top : ℕ → ℕ
  pub known : AreHeightsBelow price g v top heights
  pub start : (position from : ℕ) → IsStart g u heights position from → (p : ℕ) (c : Dart) → corner g.rows u p ≡ Some c
      → slice_index heights from < top (g.name c)
  pub none : HasNoStart g u heights → HasNoRoute price g.rows u v

-- a route down the heights is first by them, and so it is the first route
pub record IsFirstRoute (price : Pricing) (g : Named) (u v : ℕ) (heights : List ℕ) (found : PricedRoute) : Type 0 where
  pub first : IsFirst price g.rows u v found.route found.price
  pub by_heights : IsFirstByHeights price g.rows u v (height_of g heights) found.route found.price

-- the first tight dart of the face of `at`
pub record IsFirstTight (price : Pricing) (g : Named) (heights : List ℕ) (at dart : ℕ) : Type 0 where
  pub name : IsName g dart
  pub face : SameFace (system g.rows) (dart_named g at) (dart_named g dart)
  pub tight : IsTight price g.rows (height_of g heights) (dart_named g dart)
  pub first : (y : Dart) → has_dart (darts g.rows) y ≡ true → SameFace (system g.rows) (dart_named g at) y → IsTight price g.rows (height_of g heights) y
      → dart_cmp (dart_named g dart) y ≢ Greater

-- a walk down to height 0 across the first tight darts, and where it leads
pub record IsDescent (price : Pricing) (g : Named) (heights : List ℕ) (from : ℕ) (crossed : List Dart) (last : ℕ) : Type 0 where
  pub name : IsName g last
  pub zero_there : height_of g heights (dart_named g last) ≡ 0
  pub walk : (to : Dart) → SameFace (system g.rows) (dart_named g last) to → Crosses (system g.rows) (dart_named g from) crossed to
  pub cost : Costs price g.rows crossed (height_of g heights (dart_named g from))
  pub first_darts : TakesFirstDarts price g.rows (height_of g heights) (dart_named g from) crossed
  pub arrives : arrival (dart_named g from) crossed ≡ dart_named g last

-- a walk so far: what leads on from `at` leads on from the start
pub record Descends (price : Pricing) (g : Named) (heights : List ℕ) (from : ℕ) (crossed : List Dart) (at : ℕ) : Type 0 where
  pub name : IsName g at
  pub walk : (rest : List Dart) (to : Dart) → Crosses (system g.rows) (dart_named g at) rest to
      → Crosses (system g.rows) (dart_named g from) (crossed ++ rest) to
  pub cost : (rest : List Dart) → Costs price g.rows rest (height_of g heights (dart_named g at))
      → Costs price g.rows (crossed ++ rest) (height_of g heights (dart_named g from))
  pub first_darts : (rest : List Dart) → TakesFirstDarts price g.rows (height_of g heights) (dart_named g at) rest
      → TakesFirstDarts price g.rows (height_of g heights) (dart_named g from) (crossed ++ rest)
  pub arrives : (rest : List Dart) → arrival (dart_named g from) (crossed ++ rest) ≡ arrival (dart_named g at) rest

-- no corner of v lies in the face of `last`
abbrev pub HasNoEnd : Rows → ℕ → Dart → Type 0
HasNoEnd rows v last = (p : ℕ) (c : Dart) → corner rows v p ≡ Some c → SameFace (system rows) last c → ⊥

-- the first corner of v in the face of `last`
pub record IsEnd (rows : Rows) (v : ℕ) (last : Dart) (position : ℕ) : Type 0 where
  pub to : Dart
  pub there : corner rows v position ≡ Some to
  pub face : SameFace (system rows) last to
  pub first : HasFirstEnd rows v position last

-- the dart where it is tight and comes before the first so far, and else the first so far
abbrev pub IsFirstOf : Pricing → Named → List ℕ → Option ℕ → ℕ → Option ℕ → Type 0
IsFirstOf price g heights first dart result =
    ((result ≡ Some dart) × IsTight price g.rows (height_of g heights) (dart_named g dart)
    × IfSome first (λ before. dart_cmp (dart_named g dart) (dart_named g before) ≡ Less))
    ⊎ ((result ≡ first) × (IsTight price g.rows (height_of g heights) (dart_named g dart)
    → IsSomeAnd first (λ before. dart_cmp (dart_named g dart) (dart_named g before) ≢ Less)))
