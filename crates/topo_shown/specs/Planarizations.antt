-- What it is that pictures show a graph.
use Rattle.std.specs.Prelude.{◌≡◌, ◌++◌, ℕ, List, Option, IfSome, length, slice_get}
use Rattle.std.specs.List.{flat_map}
use Rattle.topo_core.specs.Cycles.{IsPermutationList}
use Rattle.topo_core.specs.declared.limits.Limits.{Limits}
use Rattle.topo_graph.specs.Graphs.{Drawn}
use Rattle.topo_shown.specs.Parts.{IsPart}
use Rattle.topo_graph.specs.declared.parts.Part.{Part}

-- the list has each number below n once, and nothing else
pub record IsNumbering (n : ℕ) (list : List ℕ) : Type 0 where
  pub size : length list ≡ n
  pub once : IsPermutationList list

-- the vertices of the graph that the parts show, and its edges
abbrev pub vertices_of : List Part → List ℕ
vertices_of parts = flat_map (λ part. part.vertices) parts

abbrev pub edges_of : List Part → List ℕ
edges_of parts = flat_map (λ part. part.edges) parts

-- each of them is a part of the graph
abbrev pub AreParts : Limits → Drawn → List (Option ℕ) → List Part → Type 0
AreParts limits graph prices parts = (i : ℕ) → IfSome (slice_get parts i) (IsPart limits graph prices)

-- Parts show a graph: each edge of the graph stands in one of them, once, and each vertex in one of them, or it is among the
-- others, once. So each part is a component: its picture is connected, and all edges at its vertices are in it. The others have
-- no edge.
pub record Shows (limits : Limits) (graph : Drawn) (prices : List (Option ℕ)) (parts : List Part) (others : List ℕ) : Type 0 where
  pub pictures : AreParts limits graph prices parts
  pub vertices : IsNumbering graph.vertices (vertices_of parts ++ others)
  pub edges : IsNumbering (length graph.edges) (edges_of parts)

-- parts that show a graph
pub record Planarization : Type 0 where
  pub limits : Limits
  pub graph : Drawn
  pub prices : List (Option ℕ)
  pub parts : List Part
  pub others : List ℕ
