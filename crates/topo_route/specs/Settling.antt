-- Heights while a search spreads them.
use Rattle.std.specs.Prelude.{◌≡◌, ◌≢◌, ℕ, ◌+◌, ◌-◌, ◌*◌, ◌/◌, ◌%◌, ◌^◌, ◌<◌, ◌≤◌, ◌==◌, Bool, true, false}
use Rattle.std.specs.Prelude.{cond, List, length, max, min, Option, None, slice_index, slice_index_or, sum_by}
use Rattle.std.specs.List.{list_any}
use Rattle.topo_core.specs.declared.rows.Rows.{Rows}
use Rattle.topo_core.specs.Picture.{darts}
use Rattle.topo_core.specs.Routes.{KeepsPromise, Price, Pricing, Reaches, unreached}
use Rattle.topo_route.specs.FaceHeights.{AreLabelled}
use Rattle.topo_route.specs.Names.{IsName, Named, dart_named, next_name, twin_name}
use Rattle.topo_route.specs.Numbers.{IsPriceAt, IsPriceFor}
use Rattle.topo_route.specs.PricedFaces.{PricedFaces, heights_over}

-- ---- Prices

-- the prices of the first segments, one for each
pub record ArePricesOf (price : Pricing) (rows : Rows) (prices : List (Option ℕ)) (segments : ℕ) : Type 0 where
  pub one_each : length prices ≡ segments
  pub right : (s : ℕ) → s < segments → IsPriceAt price rows (2 * s) (slice_index_or prices s None)
  pub promise : 0 < segments → KeepsPromise price

-- the prices that are kept are those of their segments
pub record ArePrices (price : Pricing) (g : Named) (prices : List (Option ℕ)) : Type 0 where
  pub right : (k : ℕ) → IsName g k → k / 2 < length prices → IsPriceFor price g.rows (dart_named g k) (slice_index_or prices (k / 2) None)
  pub promise : 0 < length (darts g.rows) → KeepsPromise price

-- ---- What waits

-- the number stands in the list
abbrev pub is_waiting : List ℕ → ℕ → Bool
is_waiting waiting k = list_any (λ x. x == k) waiting

-- what waits when a face is given a height: the name of a dart of it, and the low half of the height above it
abbrev pub item_of : ℕ → ℕ → ℕ
item_of dart height = dart + 2 ^ 32 * (height % 2 ^ 32)

abbrev pub dart_of_item : ℕ → ℕ
dart_of_item item = item % 2 ^ 32

-- the dart waits with the height that it has
abbrev pub is_pending : List ℕ → List ℕ → ℕ → Bool
is_pending heights waiting k = is_waiting waiting (item_of k (slice_index heights k))

-- ---- Heights

-- how many heights are less than the greatest number
abbrev pub reached : List ℕ → ℕ
reached heights = sum_by (λ h. cond {A = ℕ} (h == unreached) 0 1) heights

-- heights but the greatest number are those of darts, and costs of walks to v
pub record AreCosts (price : Pricing) (g : Named) (v : ℕ) (heights : List ℕ) : Type 0 where
  pub one_each : length heights ≡ g.size
  pub named : (k : ℕ) → k < length heights → slice_index heights k ≢ unreached → IsName g k
  pub capped : (k : ℕ) → slice_index heights k ≤ unreached
  pub costs : (k : ℕ) → IsName g k → slice_index heights k ≢ unreached → Reaches price g.rows v (dart_named g k) (slice_index heights k)
  pub bounded : (k : ℕ) → IsName g k → slice_index heights k ≢ unreached → slice_index heights k ≤ 4294967296000

-- Heights of faces, of which each dart has that of its face. They are no higher than 1000 for each face that has been reached.
pub record AreFaceCosts (seen : PricedFaces) (v : ℕ) (heights names : List ℕ) : Type 0 where
  pub labelled : AreLabelled seen.named seen.face seen.faces heights names
  pub capped : (f : ℕ) → slice_index heights f ≤ unreached
  pub bounded : (f : ℕ) → f < seen.faces → slice_index heights f ≢ unreached → slice_index heights f ≤ 1000 * reached heights
  pub costs : AreCosts seen.price seen.named v (heights_over seen heights)

-- where the dart has a price, its twin stands no higher above it than that, as far as the bound
abbrev pub IsCrossed : Pricing → Named → ℕ → List ℕ → ℕ → Type 0
IsCrossed price g bound heights k = (p : ℕ) → Price price g.rows (dart_named g k) p
    → min (slice_index heights (twin_name g k)) bound ≤ p + slice_index heights k

-- and the next along the face no higher than the dart
abbrev pub IsSettled : Pricing → Named → ℕ → List ℕ → ℕ → Type 0
IsSettled price g bound heights k = (slice_index heights (next_name g k) ≤ slice_index heights k) × IsCrossed price g bound heights k

-- a dart of the picture that has been reached
abbrev pub IsReached : Named → List ℕ → ℕ → Type 0
IsReached g heights k = IsName g k × (slice_index heights k ≢ unreached)

-- Heights are costs. Each dart lower than its top is settled as far as the reach, but where its face is that in hand or one of the face's
-- darts waits with its height. What waits is of darts that have been reached, and may be of a height from before.
pub record Spreads (seen : PricedFaces) (v : ℕ) (top : ℕ → ℕ) (reach : ℕ) (heights names waiting : List ℕ)
    (in_hand : ℕ) : Type 0 where
  pub costs : AreFaceCosts seen v heights names
  pub others : (k : ℕ) → IsName seen.named k → (in_hand < seen.named.size → seen.face k ≢ seen.face in_hand) → slice_index (heights_over seen heights) k < top k
      → ((j : ℕ) → IsName seen.named j → seen.face j ≡ seen.face k → is_pending (heights_over seen heights) waiting j ≡ false)
      → IsSettled seen.price seen.named reach (heights_over seen heights) k
  pub reached_waits : (item : ℕ) → is_waiting waiting item ≡ true → IsReached seen.named (heights_over seen heights) (dart_of_item item)

-- all darts lower than the reach are settled or wait
abbrev pub SpreadsTo : PricedFaces → ℕ → ℕ → List ℕ → List ℕ → List ℕ → Type 0
SpreadsTo seen v reach heights names waiting = Spreads seen v (λ k. reach) reach heights names waiting seen.named.size

-- ---- Heights from two ends

-- what a list says at a place, and the greatest number past its end
abbrev pub number_at : List ℕ → ℕ → ℕ
number_at numbers k = slice_index_or numbers k unreached

-- one more than the least sum, as far as numbers go
abbrev pub reach_of : ℕ → ℕ
reach_of least = min (least + 1) unreached

-- no sum of a height and the dart's height above the other end is less than the least, which is one of them where it is reached
pub record AreSums (g : Named) (heights others : List ℕ) (least : ℕ) : Type 0 where
  pub sums : (k : ℕ) → IsName g k → least ≤ slice_index heights k + number_at others k
  pub attained : least ≢ unreached → (k : ℕ) × IsName g k × (slice_index heights k + number_at others k ≤ least)

-- heights up to here are below the level, or make up no more than the price with the dart's height above the other end
abbrev pub top_of : ℕ → ℕ → List ℕ → ℕ → ℕ
top_of level most others k = max level (most + 1 - number_at others k)

-- no height is above what it was
abbrev pub AreLowered : List ℕ → List ℕ → Type 0
AreLowered before after = (k : ℕ) → slice_index after k ≤ slice_index before k

-- what falls with each step: the heights, and then how many wait
abbrev pub effort : List ℕ → List ℕ → ℕ
effort heights waiting = sum_by (λ h. h) heights + length waiting

-- One step of a search, or more: heights that spread below any tops still do, with another dart in hand
pub record Relaxes (seen : PricedFaces) (v : ℕ) (others heights names waiting : List ℕ) (least in_hand : ℕ)
    (heights' names' waiting' : List ℕ) (least' in_hand' : ℕ) : Type 0 where
  pub spreads : (top : ℕ → ℕ) → Spreads seen v top (reach_of least) heights names waiting in_hand
      → Spreads seen v top (reach_of least') heights' names' waiting' in_hand'
  pub costs : AreFaceCosts seen v heights' names'
  pub sums : AreSums seen.named (heights_over seen heights') (heights_over seen others) least'
  pub less : least' ≤ least
  pub falls : effort heights' waiting' ≤ effort heights waiting
  pub lower : AreLowered (heights_over seen heights) (heights_over seen heights')
