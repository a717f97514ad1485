-- Graphs.
use Rattle.std.specs.Prelude.{◌≡◌, ◌==◌, ◌&&◌, not, ℕ, Bool, List, Option, position, nat_lt, slice_get, IsSomeAnd}
use Rattle.topo_graph.specs.declared.GraphEdge.{GraphEdge}
use Rattle.topo_graph.specs.declared.GraphFault.{GraphFault}
use Rattle.topo_graph.specs.declared.GraphFault.TheVariants.{Loop, NoEnd, TooLarge, NotPlanarized, OtherGraph, NotShown}

-- so many vertices, numbered from 0, and the edges
pub record Drawn : Type 0 where
  pub vertices : ℕ
  pub edges : List GraphEdge

-- an edge has two ends among so many vertices
abbrev pub is_within : ℕ → GraphEdge → Bool
is_within n e = nat_lt e.a n && nat_lt e.b n && not (e.a == e.b)

-- the place of the first edge that has not
abbrev pub first_fault : ℕ → List GraphEdge → Option ℕ
first_fault n edges = position (λ e. not (is_within n e)) edges

-- what is wrong with the edge at a place: it is a loop, or else it ends at no vertex
abbrev pub IsFaultAt : List GraphEdge → ℕ → GraphFault → Type 0
IsFaultAt edges place (Loop e) = (e ≡ place) × IsSomeAnd (slice_get edges place) (λ edge. edge.a ≡ edge.b)
IsFaultAt edges place (NoEnd e) = (e ≡ place) × IsSomeAnd (slice_get edges place) (λ edge. edge.a ≡ edge.b → ⊥)
IsFaultAt edges place TooLarge = ⊥
IsFaultAt edges place (NotPlanarized e) = ⊥
IsFaultAt edges place OtherGraph = ⊥
IsFaultAt edges place NotShown = ⊥

-- it is wrong with the first edge that cannot be
abbrev pub IsFaultOf : ℕ → List GraphEdge → GraphFault → Type 0
IsFaultOf n edges fault = IsSomeAnd (first_fault n edges) (λ place. IsFaultAt edges place fault)
