-- What a typed call tells: numbers, and a list of items.
use Rattle.std.specs.Prelude.{ℕ, List, [], Option, None, Some, length, map, slice_index_or, unwrap_or}
use Rattle.std.specs.List.{range_with_len}
use Rattle.topo_core.specs.declared.calls.Refusal.{Refusal}
use Rattle.topo_core.specs.declared.calls.Refusal.TheVariants.{Cut}
use Rattle.topo_core.specs.declared.calls.Reply.{Reply}
use Rattle.topo_core.specs.declared.calls.Reply.TheVariants.{Deleted, Grown, Inserted, Refused}
use Rattle.topo_core.specs.declared.darts.Dart.{Dart}
use Rattle.topo_core.specs.declared.darts.Sign.{Sign}
use Rattle.topo_core.specs.declared.darts.Sign.TheVariants.{LeftToRight, RightToLeft}
use Rattle.topo_core.specs.declared.darts.Way.{Way}
use Rattle.topo_core.specs.declared.darts.Way.TheVariants.{Back, Forward}
use Rattle.topo_core.specs.FaultTexts.{refusal_fault}
use Rattle.topo_faults.specs.declared.Fault.{Fault}
use Rattle.topo_faults.specs.declared.Fault.TheVariants as known
use Rattle.topo_faults.specs.Faults.{number}
use Rattle.topo_picture.specs.declared.counts.Counts.{Counts}
use Rattle.topo_session.specs.declared.edges.EdgeAnswer.{EdgeAnswer}
use Rattle.topo_session.specs.declared.edges.Meeting.{Meeting}
use Rattle.topo_session.specs.declared.session.Undone.{Undone}
use Rattle.topo_session.specs.declared.vertices.End.{End}
use Rattle.topo_session.specs.declared.vertices.End.TheVariants.{A, B}
use Rattle.topo_session.specs.declared.vertices.VertexAnswer.{VertexAnswer}
use Rattle.fezdrok_c.specs.declared.given.Given.{Given}
use Rattle.fezdrok_c.specs.declared.given.Item.{Item}

-- ---- Items

abbrev pub way_side : Way → ℕ
way_side Forward = 0
way_side Back = 1

abbrev pub sign_side : Sign → ℕ
sign_side LeftToRight = 0
sign_side RightToLeft = 1

abbrev pub end_side : End → ℕ
end_side A = 0
end_side B = 1

abbrev pub dart_item : Dart → Item
dart_item d = record { id = d.edge; at = d.seg; side = way_side d.way }

abbrev pub meeting_item : Meeting → Item
meeting_item m = record { id = m.crossing; at = m.other; side = sign_side m.sign }

-- the edge at a place at a vertex, and which of its ends stands there
abbrev pub end_item : List ℕ → List End → ℕ → Item
end_item edges ends k = record { id = slice_index_or edges k 0; at = 0; side = end_side (slice_index_or ends k B) }

-- the edges at a vertex
abbrev pub end_items : List ℕ → List End → List Item
end_items edges ends = map (end_item edges ends) (range_with_len 0 (length edges))

-- ---- What is told

-- these numbers, at this price, and this list
abbrev pub gives : ℕ → ℕ → ℕ → ℕ → ℕ → ℕ → List Item → Given
gives a b c d e price list =
    record { refusal = 0; first = a; second = b; third = c; fourth = d; fifth = e; price = price; list = list }

-- the number of a fault, with what stands behind its name
abbrev pub refuses : Fault → ℕ → Given
refuses fault a = record { refusal = number fault; first = a; second = 0; third = 0; fourth = 0; fifth = 0; price = 0; list = [] }

abbrev pub cut_segment : Refusal → ℕ
cut_segment (Cut segment) = segment
cut_segment _ = 0

abbrev pub reply_given : Reply → Given
reply_given (Grown vertex edge) = gives vertex edge 0 0 0 0 []
reply_given (Inserted made) = gives made.id made.route.start made.route.end 0 0 made.price (map dart_item made.route.crossed)
reply_given (Deleted edge) = gives edge 0 0 0 0 0 []
reply_given (Refused why) = refuses (refusal_fault why) (cut_segment why)

abbrev pub counts_given : Counts → Given
counts_given c = gives c.vertices c.crossings c.edges c.segments c.faces 0 []

-- where there were not so many entries, that is told by the number of NothingToUndo
abbrev pub undone_given : ℕ → Option Undone → Given
undone_given entries None = refuses known.NothingToUndo entries
undone_given entries (Some told) = gives told.undone told.vertices told.edges told.crossings 0 0 []

-- no price is told as 0
abbrev pub edge_given : Option EdgeAnswer → Given
edge_given None = refuses known.NoEdge 0
edge_given (Some e) = gives e.a e.b e.kind 0 0 (unwrap_or e.price 0) (map meeting_item e.crossings)

abbrev pub vertex_given : Option VertexAnswer → Given
vertex_given None = refuses known.NoVertex 0
vertex_given (Some v) = gives 0 0 0 0 0 0 (end_items v.edges v.ends)
