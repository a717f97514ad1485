-- The forms of what a session reads: its opening, what it can be asked for, and its lines.
use Rattle.std.specs.Prelude.{◌≡◌, ◌⊎◌, ℕ, ◌==◌, nat_le, Bool, not, ◌&&◌, ◌||◌, List, [], length, codes, Option, Some, None, is_none, option_map, unwrap_or}
use Rattle.std.specs.Prelude.{if◌then◌else◌, Ok, Err}
use Rattle.json.specs.Ascii as ascii
use Rattle.json.specs.Word.{head}
use Rattle.serde_json.specs.Data.{Data}
use Rattle.serde_json.specs.Find.{as_str}
use Rattle.topo_core.specs.declared.calls.Command.{Command}
use Rattle.topo_script.specs.declared.fault.ScriptFault.TheVariants.{Memory, BadShape}
use Rattle.topo_script.specs.declared.keys.TheConstants.{ENVELOPE_KEYS, OPENING_KEYS}
use Rattle.topo_script.specs.declared.path.Key.TheVariants.{Call, Caller, Id, Limits, Open, Planarize, Prices, Reopen, Seconds, Start}
use Rattle.topo_script.specs.declared.path.JsonPath.{JsonPath}
use Rattle.topo_script.specs.declared.lines.Asked.{Asked}
use Rattle.topo_script.specs.declared.lines.Frame.{Frame}
use Rattle.topo_script.specs.declared.lines.Frame.TheVariants.{Opening as AsOpening, Bare, Envelope}
use Rattle.topo_script.specs.declared.lines.Line.{Line}
use Rattle.topo_script.specs.declared.lines.LineId.{LineId}
use Rattle.topo_script.specs.declared.lines.LineId.TheVariants.{Text, Number}
use Rattle.topo_script.specs.declared.sessions.Opening.{Opening}
use Rattle.topo_script.specs.declared.sessions.Request.{Request}
use Rattle.topo_script.specs.declared.sessions.Request.TheVariants.{Carry, Counts, Picture, Report, About, Route, Edge, Vertex, Face}
use Rattle.topo_script.specs.declared.sessions.Request.TheVariants.{Undo, Forget, Renumber, Open as OpenRequest, Planarize as PlanarizeRequest, Reopen as ReopenRequest}
use Rattle.topo_script.specs.Paths.{member_of, whole}
use Rattle.topo_script.specs.Graphs.{graph_form}
use Rattle.topo_script.specs.Reads.{Read, ◌>>=◌, number_below, number_form, is_text, element, has_key, has_keys, member_form, member_or, only_form, passes, value_of}
use Rattle.topo_script.specs.CallForms.{begins, command_form}
use Rattle.topo_script.specs.ReplyForms.{way_form}
use Rattle.topo_script.specs.Scripts.{greatest_limits, limits_form, nulls_in, prices_form, start_form, report_form}

-- ---- Openings

-- a script without its lists
unfoldable pub opening_form : JsonPath → Data → Read Opening
opening_form path d = do
  nulls ← nulls_in path d
  _ ← has_keys path OPENING_KEYS d
  limits ← member_or greatest_limits limits_form path Limits d
  prices ← member_or [] (prices_form nulls) path Prices d
  start ← member_or None start_form path Start d
  Ok (record { limits = limits; prices = prices; start = start })

-- the opening that bytes spell, or their first fault
unfoldable pub opening_of : List ℕ → Read Opening
opening_of bytes = value_of 268435456 bytes >>= λ d. opening_form whole d

-- ---- Requests

-- the cheapest route between two vertices
unfoldable pub route_form : JsonPath → Data → Read Request
route_form path d = do
  u ← element number_form path 1 d
  v ← element number_form path 2 d
  Ok (Route u v)

-- an edge
unfoldable pub edge_form : JsonPath → Data → Read Request
edge_form path d = do
  edge ← element number_form path 1 d
  Ok (Edge edge)

-- a vertex
unfoldable pub vertex_form : JsonPath → Data → Read Request
vertex_form path d = do
  vertex ← element number_form path 1 d
  Ok (Vertex vertex)

-- the face beside a dart
unfoldable pub face_form : JsonPath → Data → Read Request
face_form path d = do
  edge ← element number_form path 1 d
  seg ← element number_form path 2 d
  way ← element way_form path 3 d
  Ok (Face (record { edge = edge; seg = seg; way = way }))

-- to take back the last commands
unfoldable pub undo_form : JsonPath → Data → Read Request
undo_form path d = do
  count ← element number_form path 1 d
  Ok (Undo count)

-- an opening, of which the session begins anew
unfoldable pub opened_form : JsonPath → Data → Read Request
opened_form path d = do
  opening ← opening_form path d
  Ok (OpenRequest opening)

-- the same as the one member of an object
unfoldable pub open_form : JsonPath → Data → Read Request
open_form path d = do
  opening ← only_form opening_form path Open d
  Ok (OpenRequest opening)

-- a report, as the one member of an object, with which the session goes on
unfoldable pub reopen_form : JsonPath → Data → Read Request
reopen_form path d = do
  report ← only_form report_form path Reopen d
  Ok (ReopenRequest report)

-- A graph, as the one member of an object, of which pictures with few crossings are wanted. Paths in its faults begin at the
-- graph, as those of the command do. A session has no clock: the seconds are the command's alone.
unfoldable pub planarize_form : JsonPath → Data → Read Request
planarize_form path d = do
  asked ← only_form (λ _. graph_form) path Planarize d
  _ ← passes (BadShape (member_of whole Seconds)) (is_none asked.seconds)
  Ok (PlanarizeRequest asked)

-- an object that asks by its one key: for an opening, for a report to go on with, or for pictures of a graph
abbrev pub is_keyed : Data → Bool
is_keyed d = has_key Open d || has_key Reopen d || has_key Planarize d

unfoldable pub keyed_form : JsonPath → Data → Read Request
keyed_form path d =
    if has_key Open d then open_form path d else (
    if has_key Reopen d then reopen_form path d else
    planarize_form path d)

unfoldable pub carry_form : JsonPath → Data → Read Request
carry_form path d = do
  command ← command_form path d
  Ok (Carry command)

-- what an array or an object asks for: a look at the picture, a step back, what a key names, or a command
unfoldable pub look_form : JsonPath → Data → Read Request
look_form path d =
    if begins (codes "route") 3 d then route_form path d else (
    if begins (codes "edge") 2 d then edge_form path d else (
    if begins (codes "vertex") 2 d then vertex_form path d else (
    if begins (codes "face") 4 d then face_form path d else (
    if begins (codes "undo") 2 d then undo_form path d else (
    if is_keyed d then keyed_form path d else
    carry_form path d)))))

-- the text `about`, `counts`, `picture`, `report`, `forget` or `renumber`, or what an array or an object asks for
unfoldable pub request_form : JsonPath → Data → Read Request
request_form path d =
    if is_text (codes "about") d then Ok About else (
    if is_text (codes "counts") d then Ok Counts else (
    if is_text (codes "picture") d then Ok Picture else (
    if is_text (codes "report") d then Ok Report else (
    if is_text (codes "forget") d then Ok Forget else (
    if is_text (codes "renumber") d then Ok Renumber else
    look_form path d)))))

-- ---- Ids and callers

abbrev pub text_id : JsonPath → List ℕ → Read LineId
text_id path text = if nat_le (length text) 256 then Ok (Text text) else Err (BadShape path)

unfoldable pub number_id : JsonPath → Data → Read LineId
number_id path d = do
  number ← number_form path d
  Ok (Number number)

-- a text of at most 256 bytes, or a number
unfoldable pub id_form : JsonPath → Data → Read LineId
id_form path d = unwrap_or (option_map (text_id path) (as_str d)) (number_id path d)

-- the same of a member that may be missing
unfoldable pub some_id : JsonPath → Data → Read (Option LineId)
some_id path d = do
  id ← id_form path d
  Ok (Some id)

-- a caller's number
abbrev pub caller_form : JsonPath → Data → Read ℕ
caller_form path d = number_below 16 path d

-- ---- Lines

-- what an envelope says of itself: its keys, and its id, if it has one
unfoldable pub envelope_head : Data → Read (Option LineId)
envelope_head d = do
  _ ← has_keys whole ENVELOPE_KEYS d
  member_or None some_id whole Id d

-- who asks by an envelope, and for what; the caller is 0 where none is named
unfoldable pub envelope_asked : Data → Read Asked
envelope_asked d = do
  caller ← member_or 0 caller_form whole Caller d
  request ← member_form request_form whole Call d
  Ok (record { caller = caller; request = request })

-- a line with what an envelope says of itself; an envelope at fault has no id
abbrev pub enveloped : Read (Option LineId) → Read Asked → Line
enveloped (Err fault) asked = record { frame = Envelope None; asked = Err fault }
enveloped (Ok id) asked = record { frame = Envelope id; asked = asked }

unfoldable pub envelope_line : Data → Line
envelope_line d = enveloped (envelope_head d) (envelope_asked d)

-- a request without an envelope is that of caller 0
unfoldable pub bare_asked : (JsonPath → Data → Read Request) → Data → Read Asked
bare_asked form d = do
  request ← form whole d
  Ok (record { caller = 0; request = request })

-- whether a first line is the opening itself: it has no envelope, and asks for nothing else that may come first
abbrev pub is_opening : Data → Bool
is_opening d = not (is_keyed d) && not (is_text (codes "about") d)

-- a line as a value, which is the first one of its session or not
unfoldable pub line_form : Bool → Data → Line
line_form first d =
    if has_key Call d then envelope_line d else (
    if first && is_opening d then record { frame = AsOpening; asked = bare_asked opened_form d } else
    record { frame = Bare; asked = bare_asked request_form d })

-- the line that is this request itself
abbrev pub bare_line : Request → Line
bare_line request = record { frame = Bare; asked = Ok (record { caller = 0; request = request }) }

-- a line that means the same first and later: an envelope, or an object that asks by its key
unfoldable pub object_line : Data → Read Line
object_line d = if has_key Call d then Ok (envelope_line d) else (keyed_form whole d >>= λ request. Ok (bare_line request))

-- the first byte opens an object
abbrev pub has_brace : List ℕ → Bool
has_brace bytes = head bytes == ascii.open_brace

-- how many bytes a line may have: an object, which may have a picture in it, as many as a picture
unfoldable pub line_limit : Bool → List ℕ → ℕ
line_limit first bytes = if first || has_brace bytes then 268435456 else 65536

-- how a line that is no value asks
abbrev pub frame_without : Bool → Frame
frame_without first = if first then AsOpening else Bare

-- a line as a value, or the fault of its bytes
abbrev pub line_or : Bool → Read Data → Line
line_or first (Ok d) = line_form first d
line_or first (Err fault) = record { frame = frame_without first; asked = Err fault }

-- the line that bytes spell, which stand here without their line feed
unfoldable pub line_of : Bool → List ℕ → Line
line_of first bytes = line_or first (value_of (line_limit first bytes) bytes)

-- the line that is this command itself
abbrev pub command_line : Command → Line
command_line command = bare_line (Carry command)

-- the line is the one that is due, and only out of memory may take the place of what it asks for
abbrev pub ReadsLine : Line → Line → Type 0
ReadsLine line due = (line.asked ≡ Err Memory) ⊎ (line ≡ due)
