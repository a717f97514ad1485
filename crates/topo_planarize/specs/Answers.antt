-- What is answered of a graph.
use Rattle.std.specs.Prelude.{◌≡◌, ◌*◌, ◌++◌, ◌∷◌, [], ℕ, List, Option, Some, None, codes, if◌then◌else◌, length, nat_lt, slice_get, sum_by, ⊤}
use Rattle.serde_json.specs.Data.{Data, object, member, no_members}
use Rattle.serde_json.specs.Written.{compact_text}
use Rattle.topo_core.specs.declared.limits.Limits.{Limits}
use Rattle.topo_core.specs.declared.rows.CrossRow.{CrossRow}
use Rattle.topo_core.specs.declared.rows.EdgeRow.{EdgeRow}
use Rattle.topo_core.specs.declared.rows.Rows.{Rows}
use Rattle.topo_core.specs.declared.rows.TheConstants.{KINDS}
use Rattle.topo_graph.specs.Graphs.{Drawn, IsFaultOf}
use Rattle.topo_graph.specs.declared.GraphFault.{GraphFault}
use Rattle.topo_graph.specs.declared.GraphFault.TheVariants.{Loop, NoEnd, TooLarge, NotPlanarized, OtherGraph, NotShown}
use Rattle.topo_script.specs.declared.graphs.GraphAsked.{GraphAsked}
use Rattle.topo_script.specs.declared.graphs.GraphStart.{GraphStart}
use Rattle.topo_script.specs.Scripts.{greatest_limits}
use Rattle.topo_script.specs.Pictures.{list_data, number_data, part_data}
use Rattle.topo_io.specs.declared.fault.RunFault.{RunFault}
use Rattle.topo_io.specs.declared.fault.RunFault.TheVariants.{Memory, Price, Graph}
use Rattle.topo_io.specs.Limiting.{AreLimits}
use Rattle.topo_io.specs.Settings.{IsBadPrice, price_table}
use Rattle.topo_shown.specs.Planarizations.{Shows}
use Rattle.topo_graph.specs.declared.parts.Part.{Part}
use Rattle.topo_planarize.specs.declared.answers.Answer.{Answer}

-- ---- Costs

-- a price in a table, and 0 where there is none
abbrev pub number_at : Option (Option ℕ) → ℕ
number_at (Some (Some n)) = n
number_at (Some None) = 0
number_at None = 0

-- the price of an edge, and 0 where it has none
abbrev pub price_of : List (Option ℕ) → Option EdgeRow → ℕ
price_of prices None = 0
price_of prices (Some row) = if nat_lt row.kind KINDS then number_at (slice_get prices row.kind) else 0

-- a crossing costs the product of the prices of its edges
abbrev pub cost_at : List (Option ℕ) → Rows → CrossRow → ℕ
cost_at prices rows x = price_of prices (slice_get rows.edges x.crossed) * price_of prices (slice_get rows.edges x.newcomer)

abbrev pub cost_of : List (Option ℕ) → Part → ℕ
cost_of prices part = sum_by (cost_at prices part.rows) part.rows.crossings

abbrev pub total_cost : List (Option ℕ) → List Part → ℕ
total_cost prices parts = sum_by (cost_of prices) parts

abbrev pub total_crossings : List Part → ℕ
total_crossings parts = sum_by (λ part. length part.rows.crossings) parts

-- ---- Answers

-- the graph that was asked for
abbrev pub drawn : GraphAsked → Drawn
drawn asked = record { vertices = asked.vertices; edges = asked.edges }

-- The parts of an answer show the graph, within the greatest limits, and no edge that must not be crossed has a crossing. The
-- crossings are counted, and their cost is told.
pub record IsAnswerOf (graph : Drawn) (prices : List (Option ℕ)) (answer : Answer) : Type 0 where
  pub limits : Limits
  pub greatest : AreLimits greatest_limits limits
  pub shows : Shows limits graph prices answer.parts answer.lonely
  pub cost : answer.cost ≡ total_cost prices answer.parts
  pub crossings : answer.crossings ≡ total_crossings answer.parts

-- pictures that a search begins with show the graph, within the greatest limits
pub record ShowsStart (graph : Drawn) (prices : List (Option ℕ)) (start : GraphStart) : Type 0 where
  pub limits : Limits
  pub greatest : AreLimits greatest_limits limits
  pub shows : Shows limits graph prices start.parts start.lonely

-- they show it, where there are some
abbrev pub StartsWell : Drawn → List (Option ℕ) → Option GraphStart → Type 0
StartsWell graph prices None = ⊤
StartsWell graph prices (Some start) = ShowsStart graph prices start

-- there are some, and they do not show it
pub record StartsElsewhere (graph : Drawn) (prices : List (Option ℕ)) (begins : Option GraphStart) : Type 0 where
  pub start : GraphStart
  pub given : begins ≡ Some start
  pub other : ShowsStart graph prices start → ⊥

-- an answer of the graph, and at the prices, that were asked for, and what the search begins with shows the graph
pub record IsAnswerTo (asked : GraphAsked) (answer : Answer) : Type 0 where
  pub pictures : IsAnswerOf (drawn asked) (price_table asked.prices) answer
  pub start : StartsWell (drawn asked) (price_table asked.prices) asked.start

-- what keeps a search from its beginning: want of memory, or pictures that do not show the graph
abbrev pub IsStartFault : Drawn → List (Option ℕ) → Option GraphStart → RunFault → Type 0
IsStartFault graph prices start Memory = ⊤
IsStartFault graph prices start (Graph OtherGraph) = StartsElsewhere graph prices start
IsStartFault graph prices start _ = ⊥

-- what a search may end by: it says nothing of the graph
abbrev pub IsOfSearch : RunFault → Type 0
IsOfSearch Memory = ⊤
IsOfSearch (Graph TooLarge) = ⊤
IsOfSearch (Graph (NotPlanarized place)) = ⊤
IsOfSearch (Graph NotShown) = ⊤
IsOfSearch _ = ⊥

-- a price is none
abbrev pub IsPriceFaultOf : List (Option ℕ) → RunFault → Type 0
IsPriceFaultOf prices (Price fault) = IsBadPrice prices fault
IsPriceFaultOf prices _ = ⊥

-- Why there is no answer: a price is none, or the graph is none, by its first edge that cannot be, or the pictures that the
-- search is to begin with show another one. That a graph is too large, or that nothing was found, says nothing else.
abbrev pub IsGraphFaultOf : GraphAsked → GraphFault → Type 0
IsGraphFaultOf asked (Loop place) = IsFaultOf asked.vertices asked.edges (Loop place)
IsGraphFaultOf asked (NoEnd place) = IsFaultOf asked.vertices asked.edges (NoEnd place)
IsGraphFaultOf asked TooLarge = ⊤
IsGraphFaultOf asked (NotPlanarized place) = ⊤
IsGraphFaultOf asked OtherGraph = StartsElsewhere (drawn asked) (price_table asked.prices) asked.start
IsGraphFaultOf asked NotShown = ⊤

abbrev pub HasNoAnswer : GraphAsked → RunFault → Type 0
HasNoAnswer asked Memory = ⊤
HasNoAnswer asked (Price fault) = IsBadPrice asked.prices fault
HasNoAnswer asked (Graph fault) = IsGraphFaultOf asked fault
HasNoAnswer asked _ = ⊥

-- what is searched: pictures of a graph, at prices
pub record Sought : Type 0 where
  pub graph : Drawn
  pub prices : List (Option ℕ)

-- ---- Its text

abbrev pub answer_data : Answer → Data
answer_data answer = object
    (member (codes "cost") (number_data answer.cost)
    (member (codes "crossings") (number_data answer.crossings)
    (member (codes "lonely") (list_data number_data answer.lonely)
    (member (codes "parts") (list_data part_data answer.parts)
    (member (codes "tries") (list_data number_data answer.tries) no_members)))))

-- the line of an answer, with its line feed
abbrev pub answer_line : Answer → List ℕ
answer_line answer = compact_text (answer_data answer) ++ 10 ∷ []
