-- Darts by their numbers in canonical order.
use Rattle.std.specs.Prelude.{◌≡◌, ℕ, ◌+◌, ◌<◌, ◌≤◌, List, length, slice_index_or, Option, MatchOption}
use Rattle.topo_core.specs.declared.darts.Dart.{Dart}
use Rattle.topo_core.specs.declared.rows.Rows.{Rows}
use Rattle.topo_core.specs.Cycles.{SameCycle, map_of}
use Rattle.topo_core.specs.Darts.{dart_twin}
use Rattle.topo_core.specs.Rotations.{face_next}
use Rattle.topo_core.specs.Picture.{darts, system, turn_images}
use Rattle.topo_core.specs.Routes.{Costs, Crosses, Price, Pricing}
use Rattle.topo_core.specs.RouteLaws.{IsTight}
use Rattle.topo_core.specs.Systems.{SameFace}
use Rattle.topo_route.specs.Names.{no_dart}
use Rattle.topo_route.specs.Plans.{height_in}

-- the dart of a number below their count
abbrev pub dart_of : Rows → ℕ → Dart
dart_of rows k = slice_index_or (darts rows) k no_dart

-- the number of the next dart along the face
abbrev pub next_of : Rows → ℕ → ℕ
next_of rows k = face_next (map_of (turn_images rows)) k

-- crossing the dart has this price, or none
abbrev pub IsPriceFor : Pricing → Rows → Dart → Option ℕ → Type 0
IsPriceFor price rows d answer = MatchOption answer ((p : ℕ) → Price price rows d p → ⊥) (λ p. Price price rows d p)

-- and the same of the dart of a number
abbrev pub IsPriceAt : Pricing → Rows → ℕ → Option ℕ → Type 0
IsPriceAt price rows k answer = IsPriceFor price rows (dart_of rows k) answer

-- ---- Steps of a walk

-- the price of the dart and the rest are the amount
pub record Payment (price : Pricing) (rows : Rows) (dart : Dart) (left rest : ℕ) : Type 0 where
  pub cost : ℕ
  pub asked : Price price rows dart cost
  pub single : (other : ℕ) → Price price rows dart other → other ≡ cost
  pub sum : left ≡ cost + rest

-- it has no price up to the amount
abbrev pub CannotPay : Pricing → Rows → Dart → ℕ → Type 0
CannotPay price rows dart left = (p : ℕ) → Price price rows dart p → p ≤ left → ⊥

-- the dart leads from the face of `at` to that of `next`, and takes its price from what is left
pub record Crossing (price : Pricing) (rows : Rows) (at : ℕ) (dart : Dart) (left next rest : ℕ) : Type 0 where
  pub within : next < length (darts rows)
  pub lands : dart_of rows next ≡ dart_twin dart
  pub face : SameFace (system rows) (dart_of rows at) dart
  pub payment : Payment price rows dart left rest

-- it lies in another face, or has no price up to what is left
abbrev pub CannotCross : Pricing → Rows → ℕ → Dart → ℕ → Type 0
CannotCross price rows at dart left = SameFace (system rows) (dart_of rows at) dart → CannotPay price rows dart left

-- the darts lead from the face of c to that of d, and their prices sum up to n
abbrev pub Walks : Pricing → Rows → Dart → List Dart → Dart → ℕ → Type 0
Walks price rows c xs d n = Crosses (system rows) c xs d × Costs price rows xs n

-- in the face of `at` a tight dart has a smaller number
pub record HasTightBefore (price : Pricing) (rows : Rows) (heights : List ℕ) (at number : ℕ) : Type 0 where
  pub dart : ℕ
  pub face : SameCycle (next_of rows) at dart
  pub before : dart < number
  pub tight : IsTight price rows (height_in rows heights) (dart_of rows dart)
