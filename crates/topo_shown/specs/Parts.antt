-- What a picture shows of a graph.
use Rattle.std.specs.Prelude.{◌≡◌, ◌==◌, ◌&&◌, ◌||◌, ℕ, Bool, true, false, List, Option, Some, None, length, nat_lt, slice_get}
use Rattle.std.specs.List.{list_all}
use Rattle.topo_core.specs.declared.limits.Limits.{Limits}
use Rattle.topo_core.specs.declared.rows.EdgeRow.{EdgeRow}
use Rattle.topo_core.specs.declared.rows.TheConstants.{KINDS}
use Rattle.topo_rows.specs.Shown.{IsPicture}
use Rattle.topo_graph.specs.Graphs.{Drawn}
use Rattle.topo_graph.specs.declared.GraphEdge.{GraphEdge}
use Rattle.topo_graph.specs.declared.parts.Part.{Part}

-- there is a value, and it passes the test
abbrev pub holds_of : {X : Type 0} → (X → Bool) → Option X → Bool
holds_of test None = false
holds_of test (Some x) = test x

-- the entry of a list at a place is x
abbrev pub is_at : List ℕ → ℕ → ℕ → Bool
is_at list place x = holds_of (λ y. y == x) (slice_get list place)

-- a row has the ends and the kind of an edge of the graph
abbrev pub agrees : Part → EdgeRow → GraphEdge → Bool
agrees part row edge = is_at part.vertices row.a edge.a && is_at part.vertices row.b edge.b && row.kind == edge.kind

-- a row is the edge of the graph that the part's list names
abbrev pub shows_edge : List GraphEdge → Part → EdgeRow → Bool
shows_edge edges part row = holds_of (λ place. holds_of (agrees part row) (slice_get edges place)) (slice_get part.edges row.id)

-- an edge has no crossing, or its kind has a price
abbrev pub is_priced : Option ℕ → Bool
is_priced None = false
is_priced (Some n) = true

abbrev pub may_have_its_crossings : List (Option ℕ) → EdgeRow → Bool
may_have_its_crossings prices row = (length row.crossings == 0) || (nat_lt row.kind KINDS && holds_of is_priced (slice_get prices row.kind))

-- the lists have a number for each vertex and each edge, and no id is left out: as many were given as there are rows
abbrev pub has_all_numbers : Part → Bool
has_all_numbers part = length part.vertices == length part.rows.rotations && length part.edges == length part.rows.edges
    && part.rows.next_edge == length part.rows.edges && part.rows.next_crossing == length part.rows.crossings

-- A lawful picture within limits. From a to b each of its edges is the one of the graph that the lists name, of its kind. No edge
-- that must not be crossed has a crossing.
pub record IsPart (limits : Limits) (graph : Drawn) (prices : List (Option ℕ)) (part : Part) : Type 0 where
  pub numbers : has_all_numbers part ≡ true
  pub edges : list_all (shows_edge graph.edges part) part.rows.edges ≡ true
  pub free : list_all (may_have_its_crossings prices) part.rows.edges ≡ true
  pub picture : IsPicture limits part.rows
