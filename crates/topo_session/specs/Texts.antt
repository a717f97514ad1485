-- The texts that answer a line.
use Rattle.std.specs.Prelude.{ℕ, List, ◌++◌, codes, decimal, None, Some}
use Rattle.serde_json.specs.Data.{Data, string, array, object, no_items, item, no_members, member}
use Rattle.serde_json.specs.Written.{compact_text}
use Rattle.topo_core.specs.declared.calls.Refusal.TheVariants.{NoEdge, NoVertex}
use Rattle.topo_core.specs.declared.calls.Reply.{Reply}
use Rattle.topo_core.specs.declared.calls.Reply.TheVariants.{Grown, Inserted, Deleted, Refused}
use Rattle.topo_core.specs.declared.darts.Dart.{Dart}
use Rattle.topo_core.specs.declared.routes.Inserted.{Inserted as Made}
use Rattle.topo_faults.specs.declared.Fault.{Fault}
use Rattle.topo_faults.specs.declared.Fault.TheVariants as known
use Rattle.topo_faults.specs.Faults.{name, number}
use Rattle.topo_script.specs.declared.fault.ScriptFault.TheVariants.{BadShape, BadNumber}
use Rattle.topo_script.specs.declared.path.JsonPath.{JsonPath}
use Rattle.topo_script.specs.declared.lines.Frame.{Frame}
use Rattle.topo_script.specs.declared.lines.Frame.TheVariants.{Opening, Bare, Envelope}
use Rattle.topo_script.specs.declared.lines.LineId.{LineId}
use Rattle.topo_script.specs.declared.lines.LineId.TheVariants.{Text, Number}
use Rattle.topo_script.specs.Paths.{path_text}
use Rattle.topo_graph.specs.declared.GraphFault.TheVariants.{Loop, NoEnd, NotPlanarized}
use Rattle.topo_picture.specs.declared.counts.Counts.{Counts}
use Rattle.topo_price.specs.declared.table.PriceFault.TheVariants.{BadPrice}
use Rattle.topo_script.specs.Pictures.{list_data, number_data, sign_data}
use Rattle.topo_script.specs.ReportTexts.{dart_data, price_data, reply_data}
use Rattle.topo_session.specs.declared.edges.EdgeAnswer.{EdgeAnswer}
use Rattle.topo_session.specs.declared.edges.Meeting.{Meeting}
use Rattle.topo_renumbering.specs.declared.Renumbered.{Renumbered}
use Rattle.topo_session.specs.declared.session.Undone.{Undone}
use Rattle.topo_session.specs.declared.vertices.End.{End}
use Rattle.topo_session.specs.declared.vertices.End.TheVariants.{A, B}
use Rattle.topo_session.specs.declared.vertices.VertexAnswer.{VertexAnswer}
use Rattle.topo_io.specs.declared.fault.RunFault.{RunFault}
use Rattle.topo_io.specs.declared.fault.RunFault.TheVariants.{Script, Price, Graph, WrongReply}
use Rattle.topo_io.specs.Statuses.{fault_of}

-- ---- Values

abbrev pub counts_data : Counts → Data
counts_data counts = object
    (member (codes "crossings") (number_data counts.crossings)
    (member (codes "edges") (number_data counts.edges)
    (member (codes "faces") (number_data counts.faces)
    (member (codes "segments") (number_data counts.segments)
    (member (codes "vertices") (number_data counts.vertices) no_members)))))

-- a route without the edge that would take it
abbrev pub route_data : Made → Data
route_data made = object
    (member (codes "crossed") (list_data dart_data made.route.crossed)
    (member (codes "end") (number_data made.route.end)
    (member (codes "price") (number_data made.price)
    (member (codes "start") (number_data made.route.start) no_members))))

-- what is told of the reply that an insertion would have
abbrev pub route_reply_data : Reply → Data
route_reply_data (Grown vertex edge) = reply_data (Grown vertex edge)
route_reply_data (Inserted made) = route_data made
route_reply_data (Deleted edge) = reply_data (Deleted edge)
route_reply_data (Refused why) = reply_data (Refused why)

abbrev pub meeting_data : Meeting → Data
meeting_data m = array (item (number_data m.crossing) (item (number_data m.other) (item (sign_data m.sign) no_items)))

abbrev pub edge_data : EdgeAnswer → Data
edge_data e = object
    (member (codes "a") (number_data e.a)
    (member (codes "b") (number_data e.b)
    (member (codes "crossings") (list_data meeting_data e.crossings)
    (member (codes "id") (number_data e.id)
    (member (codes "kind") (number_data e.kind)
    (member (codes "price") (price_data e.price) no_members))))))

abbrev pub end_data : End → Data
end_data A = string (codes "a")
end_data B = string (codes "b")

abbrev pub vertex_data : VertexAnswer → Data
vertex_data v = object (member (codes "edges") (list_data number_data v.edges) (member (codes "ends") (list_data end_data v.ends) no_members))

abbrev pub face_data : List Dart → Data
face_data darts = object (member (codes "darts") (list_data dart_data darts) no_members)

abbrev pub undone_data : Undone → Data
undone_data told = object
    (member (codes "crossings") (number_data told.crossings)
    (member (codes "edges") (number_data told.edges)
    (member (codes "undone") (number_data told.undone)
    (member (codes "vertices") (number_data told.vertices) no_members))))

abbrev pub renumbered_data : Renumbered → Data
renumbered_data ids =
    object (member (codes "crossings") (list_data number_data ids.crossings) (member (codes "edges") (list_data number_data ids.edges) no_members))

-- ---- Texts

abbrev pub counts_text : Counts → List ℕ
counts_text counts = compact_text (counts_data counts)

abbrev pub no_edge_text : List ℕ
no_edge_text = compact_text (reply_data (Refused NoEdge))

abbrev pub no_vertex_text : List ℕ
no_vertex_text = compact_text (reply_data (Refused NoVertex))

abbrev pub no_dart_text : List ℕ
no_dart_text = codes "{\"refused\":[" ++ (decimal (number known.NoDart) ++ (codes ",\"" ++ (name known.NoDart ++ codes "\"]}")))

-- a fault
abbrev pub numbered_text : Fault → List ℕ
numbered_text fault = codes "{\"fault\":[" ++ (decimal (number fault) ++ (codes ",\"" ++ (name fault ++ codes "\"]}")))

-- a fault with a number: a kind whose price is none, a place in a history, or a number of entries
abbrev pub counted_text : Fault → ℕ → List ℕ
counted_text fault count = codes "{\"fault\":[" ++ (decimal (number fault) ++ (codes ",\"" ++ (name fault ++ (codes "\"," ++ (decimal count ++ codes "]}")))))

-- a fault with its path
abbrev pub placed_text : Fault → JsonPath → List ℕ
placed_text fault path =
    codes "{\"fault\":[" ++ (decimal (number fault) ++ (codes ",\"" ++ (name fault ++ (codes "\",\"" ++ (path_text path ++ codes "\"]}")))))

abbrev pub not_open_text : List ℕ
not_open_text = numbered_text known.NotOpen

-- there are not so many entries to take back
abbrev pub nothing_text : ℕ → List ℕ
nothing_text entries = counted_text known.NothingToUndo entries

-- what the program is, and which requests it knows
abbrev pub about_text : List ℕ
about_text = codes "{\"limits\":{\"crossings\":1048576,\"edges\":65536,\"vertices\":65536},\"program\":\"planar\",\"requests\":[\"about\",\"counts\",\"delete\",\"edge\",\"face\",\"forget\",\"grow\",\"insert\",\"open\",\"picture\",\"planarize\",\"planned\",\"renumber\",\"reopen\",\"report\",\"route\",\"undo\",\"vertex\"],\"version\":\"0.5.0\"}"

-- what is told of a fault, of a line or of what it opens
abbrev pub fault_text : RunFault → List ℕ
fault_text (Script (BadShape path)) = placed_text known.BadShape path
fault_text (Script (BadNumber path)) = placed_text known.BadNumber path
fault_text (Price (BadPrice kind)) = counted_text known.BadPrice kind
fault_text (Graph (Loop place)) = counted_text known.Loop place
fault_text (Graph (NoEnd place)) = counted_text known.NoEnd place
fault_text (Graph (NotPlanarized place)) = counted_text known.NotPlanarized place
fault_text (WrongReply place) = counted_text known.WrongReply place
fault_text fault = numbered_text (fault_of fault)

-- ---- Envelopes

abbrev pub id_data : LineId → Data
id_data (Text text) = string text
id_data (Number n) = number_data n

-- an answer as it stands in its line: an envelope's has the id that the envelope had
abbrev pub framed : Frame → List ℕ → List ℕ
framed Opening answer = answer
framed Bare answer = answer
framed (Envelope None) answer = codes "{\"answer\":" ++ (answer ++ codes "}")
framed (Envelope (Some id)) answer = codes "{\"answer\":" ++ (answer ++ (codes ",\"id\":" ++ (compact_text (id_data id) ++ codes "}")))
