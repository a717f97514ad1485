-- What the steps of a search keep.
use Rattle.std.specs.Prelude.{◌≡◌, ◌≢◌, ℕ, ◌+◌, ◌^◌, ◌<◌, ◌≤◌, true, false, List, length, min, slice_index, slice_set}
use Rattle.topo_core.specs.Picture.{darts}
use Rattle.topo_core.specs.Routes.{unreached}
use Rattle.topo_price.specs.declared.tariff.PriceFn as PriceFn
use Rattle.topo_price.specs.Prices.{prices_of}
use Rattle.topo_route.specs.declared.both_ends.Stop.{Stop}
use Rattle.topo_route.specs.declared.face_graph.FaceGraph as FaceGraph
use Rattle.topo_route.specs.declared.guided.guide.Guide.{Guide}
use Rattle.topo_route.specs.declared.priced_graph.PricedGraph.{PricedGraph}
use Rattle.topo_route.specs.declared.spread.Crossing.{Crossing}
use Rattle.topo_route.specs.declared.spread.SearchState.{SearchState}
use Rattle.topo_route.specs.declared.workspace.Workspace.{Workspace}
use Rattle.topo_route.specs.Descents.{AreHeightsFor, AreHeightsUpTo}
use Rattle.topo_route.specs.FaceHeights.{AreLabelled, dart_heights, with_name}
use Rattle.topo_route.specs.Guided.{top_of_bound}
use Rattle.topo_route.specs.Meeting.{HasMet, SpreadsBoth}
use Rattle.topo_route.specs.Names.{IsName, Named, twin_name}
use Rattle.topo_route.specs.Plans.{AreHeights}
use Rattle.topo_route.specs.Potentials.{bound_by}
use Rattle.topo_route.specs.PricedFaces.{PricedFaces, heights_over}
use Rattle.topo_route.specs.Regions.{RegionState}
use Rattle.topo_route.specs.Seen.{HasSeen, HoldsSeen}
use Rattle.topo_route.specs.Settling.{AreFaceCosts, AreLowered, ArePrices, AreSums, IsCrossed, IsReached, IsSettled, Relaxes, Spreads}
use Rattle.topo_route.specs.Settling.{dart_of_item, is_pending, is_waiting, number_at, reach_of}

-- the faces of a picture with prices
abbrev pub priced_faces : {W F : Type 0} → FaceGraph.Ghosts W → PriceFn.Ghosts F → PricedGraph W F → PricedFaces
priced_faces w f priced = record {
  price = prices_of (f.may_return priced.tariff.now);
  kept = priced.prices.items;
  named = w.named priced.graph.now;
  face = w.face_of priced.graph.now;
  faces = w.face_bound priced.graph.now;
}

-- the heights of a picture's darts by their names, from those of its faces by their labels
abbrev pub heights_on : {W : Type 0} → FaceGraph.Ghosts W → W → List ℕ → List ℕ
heights_on w graph heights = dart_heights (w.named graph) (w.face_of graph) heights

-- the prices that are kept are right
abbrev pub KeepsPrices : PricedFaces → Type 0
KeepsPrices p = ArePrices p.price p.named p.kept

-- and there is a dart
pub record HasPrices (p : PricedFaces) : Type 0 where
  pub right : KeepsPrices p
  pub some : 0 < length (darts p.named.rows)

-- ---- What waits

-- what waits is of darts
abbrev pub AreOfDarts : Named → List ℕ → Type 0
AreOfDarts g waiting = (item : ℕ) → is_waiting waiting item ≡ true → IsName g (dart_of_item item)

-- what waits has waited before
abbrev pub AreLeft : List ℕ → List ℕ → Type 0
AreLeft before after = (item : ℕ) → is_waiting after item ≡ true → is_waiting before item ≡ true

-- no dart lower than its top waits with its height
abbrev pub NoneWaits : Named → List ℕ → (ℕ → ℕ) → List ℕ → Type 0
NoneWaits g heights top waiting = (k : ℕ) → k < 2 ^ 32 → IsName g k → slice_index heights k < top k → is_pending heights waiting k ≡ false

-- a dart that waits with its height is taken out, and no other that is lower than its top
pub record IsTaken (g : Named) (heights : List ℕ) (top : ℕ → ℕ) (before after : List ℕ) (dart h : ℕ) : Type 0 where
  pub name : IsName g dart
  pub pending : is_pending heights before dart ≡ true
  pub height : h ≡ slice_index heights dart
  pub others : (k : ℕ) → k < 2 ^ 32 → IsName g k → slice_index heights k < top k → k ≢ dart → is_pending heights after k ≡ is_pending heights before k
  pub len : length after < length before

-- heights below this make up no more than the least with what is left to go by the guide
abbrev pub top_toward : {W : Type 0} → FaceGraph.Ghosts W → W → Guide → ℕ → ℕ → ℕ
top_toward w graph guide least = top_of_bound (λ k. bound_by guide (w.potentials graph (w.face_of graph k))) least

-- ---- Steps of a search from v, with heights above the other end

-- heights are costs, and the least of their sums is known
pub record IsSearch (p : PricedFaces) (v : ℕ) (others : List ℕ) (state : SearchState) (least : ℕ) : Type 0 where
  pub costs : AreFaceCosts p v state.heights state.names.items
  pub sums : AreSums p.named (heights_over p state.heights) (heights_over p others) least

-- a dart of the face in hand has been reached, at this height
pub record IsInHand (p : PricedFaces) (state : SearchState) (dart h : ℕ) : Type 0 where
  pub reached : IsReached p.named (heights_over p state.heights) dart
  pub height : h ≡ slice_index (heights_over p state.heights) dart

-- the face beyond is that of the dart's twin
pub record LeadsBeyond (p : PricedFaces) (crossing : Crossing) : Type 0 where
  pub beyond : crossing.beyond ≡ p.face (twin_name p.named crossing.dart)
  pub within : crossing.beyond < p.faces

-- a face gets a height, and a dart of it a name if it was not reached before
pub record Lowers (others : List ℕ) (before : SearchState) (sum face dart height : ℕ) (after : SearchState) (sum' : ℕ) : Type 0 where
  pub heights : after.heights ≡ slice_set before.heights face height
  pub names : after.names.items ≡ with_name before.heights face dart before.names.items
  pub waiting : after.waiting ≡ before.waiting
  pub least : sum' ≡ min sum (height + number_at others face)

-- one step or more, from one dart in hand to another
abbrev pub RelaxesFrom : PricedFaces → ℕ → List ℕ → SearchState → ℕ → ℕ → SearchState → ℕ → ℕ → Type 0
RelaxesFrom p v others before least in_hand after least' in_hand' = Relaxes p v others
    before.heights before.names.items before.waiting least in_hand after.heights after.names.items after.waiting least' in_hand'

-- a step across the dart in hand, whose height stays
pub record RelaxesTwin (p : PricedFaces) (v : ℕ) (others : List ℕ) (before : SearchState) (least dart height : ℕ) (after : SearchState) (least' : ℕ) : Type 0 where
  pub relaxes : RelaxesFrom p v others before least dart after least' dart
  pub crossed : IsCrossed p.price p.named (reach_of least') (heights_over p after.heights) dart
  pub same : slice_index (heights_over p after.heights) dart ≡ height

-- right prices, heights that have spread below the tops, and the least of their sums
pub record IsSpread (p : PricedFaces) (v : ℕ) (others : List ℕ) (top : ℕ → ℕ) (state : SearchState) (least : ℕ) : Type 0 where
  pub right : KeepsPrices p
  pub spreads : Spreads p v top (reach_of least) state.heights state.names.items state.waiting p.named.size
  pub sums : AreSums p.named (heights_over p state.heights) (heights_over p others) least

-- a search goes on: no height rises, nor does the least sum
pub record GoesOn (p : PricedFaces) (v : ℕ) (others : List ℕ) (top : ℕ → ℕ) (before : SearchState) (least : ℕ) (after : SearchState) (least' : ℕ) : Type 0 where
  pub spreads : Spreads p v top (reach_of least') after.heights after.names.items after.waiting p.named.size
  pub sums : AreSums p.named (heights_over p after.heights) (heights_over p others) least'
  pub less : least' ≤ least
  pub lower : AreLowered (heights_over p before.heights) (heights_over p after.heights)

-- a search has gone on until all darts below their tops were settled
pub record Settles (p : PricedFaces) (v : ℕ) (others : List ℕ) (top : ℕ → ℕ) (before : SearchState) (least : ℕ) (after : SearchState) (least' : ℕ) : Type 0 where
  pub costs : AreFaceCosts p v after.heights after.names.items
  pub settled : (k : ℕ) → IsName p.named k → slice_index (heights_over p after.heights) k < top k
      → IsSettled p.price p.named (reach_of least') (heights_over p after.heights) k
  pub sums : AreSums p.named (heights_over p after.heights) (heights_over p others) least'
  pub less : least' ≤ least
  pub lower : AreLowered (heights_over p before.heights) (heights_over p after.heights)

-- the least price from each dart's face to a face at v
pub record HasLeastHeights (p : PricedFaces) (v : ℕ) (heights : List ℕ) : Type 0 where
  pub are_heights : AreHeights p.price p.named v (heights_over p heights)
  pub in_range : (k : ℕ) → slice_index (heights_over p heights) k ≤ unreached
  pub one_each : length heights ≡ p.faces

-- ---- Down the heights

-- right prices, and one height for each label
pub record HasHeights (p : PricedFaces) (heights : List ℕ) : Type 0 where
  pub right : KeepsPrices p
  pub one_each : length heights ≡ p.faces

-- and these are known as far up as a dart
pub record KnowsUpTo (p : PricedFaces) (v : ℕ) (heights : List ℕ) (at : ℕ) : Type 0 where
  pub has : HasHeights p heights
  pub name : IsName p.named at
  pub known : AreHeightsUpTo p.price p.named v (heights_over p heights) at

-- ---- Searches from both ends

-- heights have spread from both ends as far as the least of their sums
abbrev pub SpreadsFrom : PricedFaces → ℕ → ℕ → Workspace → ℕ → Type 0
SpreadsFrom p u v work least = SpreadsBoth p u v work.to_end.heights work.to_end.names.items work.to_end.waiting
    work.to_start.heights work.to_start.names.items work.to_start.waiting least

-- the heights above v are known as far as routes from u need them, and the two ends have met
pub record BothMeet (p : PricedFaces) (u v : ℕ) (work : Workspace) (stop : Stop) : Type 0 where
  pub heights : AreHeightsFor p.price p.named u v (heights_over p work.to_end.heights)
  pub met : HasMet p.price p.named u v (heights_over p work.to_end.heights) (heights_over p work.to_start.heights) stop.level stop.least
  pub to_end : AreLabelled p.named p.face p.faces work.to_end.heights work.to_end.names.items
  pub to_start : AreLabelled p.named p.face p.faces work.to_start.heights work.to_start.names.items

-- in each face that has been reached lies one of the darts that are named
abbrev pub IsLabelled : {W : Type 0} → FaceGraph.Ghosts W → W → SearchState → Type 0
IsLabelled w graph state = AreLabelled (w.named graph) (w.face_of graph) (w.face_bound graph) state.heights state.names.items

-- both ends are so, and the search has stopped there
abbrev pub HasStopped : {W : Type 0} → FaceGraph.Ghosts W → W → Workspace → Stop → Type 0
HasStopped w graph work stop = HasSeen (w.named graph) (w.face_of graph) (w.face_bound graph) work.to_end.heights work.to_end.names.items
    work.to_start.heights work.to_start.names.items stop.level stop.least

-- a region holds what the search has seen from both ends
abbrev pub HoldsFaces : {W : Type 0} → FaceGraph.Ghosts W → W → Workspace → Stop → RegionState → Type 0
HoldsFaces w graph work stop region = HoldsSeen (w.named graph) (heights_on w graph work.to_end.heights) (heights_on w graph work.to_start.heights)
    stop.level stop.least region
