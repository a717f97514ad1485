-- What is answered about edges and vertices.
use Rattle.std.specs.Prelude.{ℕ, ◌==◌, nat_lt, List, [], ◌∷◌, map, length, Option, None, Some, option_map, if◌then◌else◌}
use Rattle.topo_core.specs.declared.darts.Sign.{Sign}
use Rattle.topo_core.specs.Darts.{opposite}
use Rattle.topo_core.specs.declared.rows.CrossRow.{CrossRow}
use Rattle.topo_core.specs.declared.rows.EdgeRow.{EdgeRow}
use Rattle.topo_core.specs.declared.rows.Rows.{Rows}
use Rattle.topo_core.specs.Picture.{cross_row, edge_row, rotation}
use Rattle.topo_io.specs.Settings.{price_of_kind}
use Rattle.topo_session.specs.declared.edges.EdgeAnswer.{EdgeAnswer}
use Rattle.topo_session.specs.declared.edges.Meeting.{Meeting}
use Rattle.topo_session.specs.declared.vertices.End.{End}
use Rattle.topo_session.specs.declared.vertices.End.TheVariants.{A, B}
use Rattle.topo_session.specs.declared.vertices.VertexAnswer.{VertexAnswer}

-- ---- Edges

-- the edge of a crossing that is not e
abbrev pub other_edge : ℕ → CrossRow → ℕ
other_edge e x = if x.crossed == e then x.newcomer else x.crossed

-- how the other edge passes, as seen along e: a sign says how the newcomer passes, as seen along the crossed edge
abbrev pub sign_along : ℕ → CrossRow → Sign
sign_along e x = if x.crossed == e then x.sign else opposite x.sign

abbrev pub meeting_of : ℕ → CrossRow → Meeting
meeting_of e x = record { crossing = x.id; other = other_edge e x; sign = sign_along e x }

abbrev pub meeting_before : ℕ → Option CrossRow → List Meeting → List Meeting
meeting_before e None meetings = meetings
meeting_before e (Some x) meetings = meeting_of e x ∷ meetings

-- the crossings with these ids along e: each is there, in a lawful picture
abbrev pub meetings_on : Rows → ℕ → List ℕ → List Meeting
meetings_on rows e [] = []
meetings_on rows e (x ∷ xs) = meeting_before e (cross_row rows x) (meetings_on rows e xs)

-- what is to be known of an edge, from its end a to its end b, with what a later edge pays to cross it
abbrev pub edge_found : List (Option ℕ) → Rows → EdgeRow → EdgeAnswer
edge_found prices rows row = record {
  a = row.a;
  b = row.b;
  crossings = meetings_on rows row.id row.crossings;
  id = row.id;
  kind = row.kind;
  price = price_of_kind prices row.kind;
}

abbrev pub edge_asked : List (Option ℕ) → Rows → ℕ → Option EdgeAnswer
edge_asked prices rows e = option_map (edge_found prices rows) (edge_row rows e)

-- ---- Vertices

-- which end of an edge is at v
abbrev pub end_of : ℕ → Option EdgeRow → End
end_of v None = B
end_of v (Some row) = if row.a == v then A else B

abbrev pub end_at : Rows → ℕ → ℕ → End
end_at rows v e = end_of v (edge_row rows e)

-- the edges round a vertex, clockwise, each with its end there
abbrev pub vertex_asked : Rows → ℕ → Option VertexAnswer
vertex_asked rows v = if nat_lt v (length rows.rotations) then Some (record { edges = rotation rows v; ends = map (end_at rows v) (rotation rows v) }) else None
