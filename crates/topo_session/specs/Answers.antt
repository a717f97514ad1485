-- The text that answers a line, and where the session stands behind it.
use Rattle.std.specs.Prelude.{◌≡◌, ◌≢◌, ◌⊎◌, ⊤, ℕ, List, Option, None, Some, option_map, unwrap_or, Ok, Err}
use Rattle.serde_json.specs.Written.{compact_text}
use Rattle.topo_core.specs.declared.calls.Command.{Command}
use Rattle.topo_core.specs.declared.calls.Reply.{Reply}
use Rattle.topo_core.specs.declared.darts.Dart.{Dart}
use Rattle.topo_core.specs.declared.rows.Rows.{Rows}
use Rattle.topo_core.specs.History.{call_of}
use Rattle.topo_core.specs.Picture.{edge_row}
use Rattle.topo_script.specs.declared.fault.ScriptFault.TheVariants.{Memory as NoMemory}
use Rattle.topo_script.specs.declared.graphs.GraphAsked.{GraphAsked}
use Rattle.topo_script.specs.declared.lines.Asked.{Asked as Asking}
use Rattle.topo_script.specs.declared.lines.Line.{Line}
use Rattle.topo_script.specs.declared.lines.Frame.TheVariants.{Opening}
use Rattle.topo_script.specs.declared.reports.Report.{Report}
use Rattle.topo_script.specs.declared.sessions.Opening.{Opening as Opened}
use Rattle.topo_script.specs.declared.sessions.Request.{Request}
use Rattle.topo_script.specs.declared.sessions.Request.TheVariants.{Carry, Counts as AskCounts, Picture as AskPicture, Report as AskReport, About}
use Rattle.topo_script.specs.declared.sessions.Request.TheVariants.{Route, Edge, Vertex, Face, Open, Undo, Forget, Renumber, Reopen, Planarize}
use Rattle.topo_script.specs.Reads.{Read}
use Rattle.topo_picture.specs.declared.counts.Counts.{Counts}
use Rattle.topo_planarize.specs.Answers.{HasNoAnswer, IsAnswerTo, answer_data}
use Rattle.topo_planarize.specs.declared.answers.Answer.{Answer}
use Rattle.topo_picture.specs.Faces.{IsFaceOf}
use Rattle.topo_picture.specs.Totals.{AreCountsOf}
use Rattle.topo_script.specs.Pictures.{rows_text}
use Rattle.topo_script.specs.ReportTexts.{reply_data, report_text}
use Rattle.topo_io.specs.declared.fault.RunFault.{RunFault}
use Rattle.topo_io.specs.declared.fault.RunFault.TheVariants.{Load, Memory, Script}
use Rattle.topo_io.specs.Settings.{IsUnsound, start_of}
use Rattle.topo_session.specs.Questions.{edge_asked, vertex_asked}
use Rattle.topo_check.specs.Replays.{IsUntrue}
use Rattle.topo_renumbering.specs.declared.Renumbered.{Renumbered}
use Rattle.topo_session.specs.declared.session.Undone.{Undone}
use Rattle.topo_session.specs.Standings.{Enters, IsOpened, IsReopened, IsRouteReply, IsUndone, Renumbers, Standing, begins_with, report_so_far}
use Rattle.topo_session.specs.Texts.{about_text, counts_text, edge_data, face_data, fault_text, framed, no_dart_text, no_edge_text, nothing_text}
use Rattle.topo_session.specs.Texts.{no_vertex_text, not_open_text, renumbered_data, route_reply_data, undone_data, vertex_data}

-- ---- Answers of a session

-- the text is that of the counts of the picture
pub record TellsCounts (rows : Rows) (text : List ℕ) : Type 0 where
  pub counts : Counts
  pub counted : AreCountsOf rows counts
  pub told : text ≡ counts_text counts

-- another picture begins, and the text is that of its counts
pub record Opens (opening : Opened) (text : List ℕ) (new : Standing) : Type 0 where
  pub opened : IsOpened opening new
  pub told : TellsCounts (start_of opening.start) text

-- a session goes on from a report, and the text is that of the counts of its picture
pub record Reopens (report : Report) (text : List ℕ) (new : Standing) : Type 0 where
  pub reopened : IsReopened report new
  pub told : TellsCounts report.picture text

-- the command is carried out by a step, which is the last of the history from now on, and the text is its reply
pub record CarriesOut (caller : ℕ) (command : Command) (text : List ℕ) (old new : Standing) : Type 0 where
  pub reply : Reply
  pub entered : Enters caller (call_of command) reply old new
  pub told : text ≡ compact_text (reply_data reply)

-- the text tells the route that an edge of kind 0 would take now, or why there would be none
pub record TellsRoute (s : Standing) (u v : ℕ) (text : List ℕ) : Type 0 where
  pub reply : Reply
  pub due : IsRouteReply s u v reply
  pub told : text ≡ compact_text (route_reply_data reply)

-- what is told where there are no such darts: that there is no such edge, or that the edge has no such segment
abbrev pub no_face_text : Rows → Dart → List ℕ
no_face_text rows d = unwrap_or (option_map (λ _. no_dart_text) (edge_row rows d.edge)) no_edge_text

abbrev pub face_text : Rows → Dart → Option (List Dart) → List ℕ
face_text rows d None = no_face_text rows d
face_text rows d (Some darts) = compact_text (face_data darts)

-- the text tells the face on the left of the dart, or why there is none
pub record TellsFace (rows : Rows) (d : Dart) (text : List ℕ) : Type 0 where
  pub found : Option (List Dart)
  pub is : IsFaceOf rows d found
  pub told : text ≡ face_text rows d found

abbrev pub edge_text : Standing → ℕ → List ℕ
edge_text s e = unwrap_or (option_map (λ found. compact_text (edge_data found)) (edge_asked s.prices s.picture e)) no_edge_text

abbrev pub vertex_text : Standing → ℕ → List ℕ
vertex_text s v = unwrap_or (option_map (λ found. compact_text (vertex_data found)) (vertex_asked s.picture v)) no_vertex_text

-- what is told of entries taken back, so many, or that there are not so many
abbrev pub undo_text : ℕ → Option Undone → List ℕ
undo_text entries (Some told) = compact_text (undone_data told)
undo_text entries None = nothing_text entries

-- so many entries are taken back, if there are so many, and the text tells which
pub record TellsUndone (entries : ℕ) (text : List ℕ) (old new : Standing) : Type 0 where
  pub found : Option Undone
  pub is : IsUndone entries old new found
  pub told : text ≡ undo_text entries found

-- the ids are closed up, and the text tells those of before
pub record TellsRenumbered (text : List ℕ) (old new : Standing) : Type 0 where
  pub ids : Renumbered
  pub is : Renumbers ids old new
  pub told : text ≡ compact_text (renumbered_data ids)

-- the text tells pictures of a graph, as the command `planarize` does
pub record TellsPictures (asked : GraphAsked) (text : List ℕ) : Type 0 where
  pub answer : Answer
  pub answers : IsAnswerTo asked answer
  pub told : text ≡ compact_text (answer_data answer)

-- The text answers a request, and the session stands so behind it. A command changes the picture, what takes commands back or
-- closes ids up does, and an opening puts another in its place. Nothing else does.
abbrev pub Answers : ℕ → Request → List ℕ → Standing → Standing → Type 0
Answers caller (Carry command) text old new = CarriesOut caller command text old new
Answers caller AskCounts text old new = TellsCounts old.picture text × (new ≡ old)
Answers caller AskPicture text old new = (text ≡ rows_text old.picture) × (new ≡ old)
Answers caller AskReport text old new = (text ≡ report_text (report_so_far old)) × (new ≡ old)
Answers caller About text old new = (text ≡ about_text) × (new ≡ old)
Answers caller (Route u v) text old new = TellsRoute old u v text × (new ≡ old)
Answers caller (Edge e) text old new = (text ≡ edge_text old e) × (new ≡ old)
Answers caller (Vertex v) text old new = (text ≡ vertex_text old v) × (new ≡ old)
Answers caller (Face d) text old new = TellsFace old.picture d text × (new ≡ old)
Answers caller (Open opening) text old new = Opens opening text new
Answers caller (Undo entries) text old new = TellsUndone entries text old new
Answers caller Forget text old new = TellsCounts old.picture text × (new ≡ begins_with old.picture old)
Answers caller Renumber text old new = TellsRenumbered text old new
Answers caller (Reopen report) text old new = Reopens report text new
Answers caller (Planarize asked) text old new = TellsPictures asked text × (new ≡ old)

-- a fault of loading a picture. A renumbering has this, as far as this says; tests have never seen one
abbrev pub IsOfLoading : RunFault → Type 0
IsOfLoading Memory = ⊤
IsOfLoading (Load fault) = ⊤
IsOfLoading _ = ⊥

-- The fault of a request is that of an opening, of its limits, its prices or its start, or that of a report, or of a graph. Any
-- request may be out of memory.
abbrev pub IsFaultOfRequest : Request → RunFault → Type 0
IsFaultOfRequest (Open opening) fault = IsUnsound opening.limits opening.prices opening.start fault
IsFaultOfRequest (Reopen report) fault = IsUntrue report fault
IsFaultOfRequest (Planarize asked) fault = HasNoAnswer asked fault
IsFaultOfRequest Renumber fault = IsOfLoading fault
IsFaultOfRequest request fault = fault ≡ Memory

-- What a request that is at fault leaves: all is as it was. Where it is out of memory it may be done, and only the text lost.
abbrev pub LeavesBy : RunFault → ℕ → Request → Standing → Standing → Type 0
LeavesBy Memory caller request old new = (new ≡ old) ⊎ ((text : List ℕ) × Answers caller request text old new)
LeavesBy _ caller request old new = new ≡ old

-- ---- One request, whether a session is open or not

-- where no session is open, only these four requests are answered, and each other one is told so
abbrev pub AnswersClosed : Request → List ℕ → Option Standing → Type 0
AnswersClosed About text new = (text ≡ about_text) × (new ≡ None)
AnswersClosed (Open opening) text new = (s : Standing) × (new ≡ Some s) × Opens opening text s
AnswersClosed (Reopen report) text new = (s : Standing) × (new ≡ Some s) × Reopens report text s
AnswersClosed (Planarize asked) text new = TellsPictures asked text × (new ≡ None)
AnswersClosed request text new = (text ≡ not_open_text) × (new ≡ None)

-- the text answers what was asked without fault
abbrev pub Responds : Asking → List ℕ → Option Standing → Option Standing → Type 0
Responds asked text None new = AnswersClosed asked.request text new
Responds asked text (Some s) new = (t : Standing) × (new ≡ Some t) × Answers asked.caller asked.request text s t

-- what a line asks for is answered without fault
abbrev pub RespondsTo : Read Asking → List ℕ → Option Standing → Option Standing → Type 0
RespondsTo (Err script) text old new = ⊥
RespondsTo (Ok asked) text old new = Responds asked text old new

-- what a line asks for has this fault, which may be out of memory
abbrev pub IsFaultOfAsked : Read Asking → RunFault → Type 0
IsFaultOfAsked asked Memory = ⊤
IsFaultOfAsked (Err NoMemory) fault = ⊥
IsFaultOfAsked (Err script) fault = fault ≡ Script script
IsFaultOfAsked (Ok asked) fault = IsFaultOfRequest asked.request fault

-- what a fault leaves: all is as it was, and out of memory what was asked may be done, and only the text lost
abbrev pub Leaves : RunFault → Read Asking → Option Standing → Option Standing → Type 0
Leaves Memory asked old new = (new ≡ old) ⊎ ((text : List ℕ) × RespondsTo asked text old new)
Leaves _ asked old new = new ≡ old

-- ---- Lines

-- a fault is told, and nothing changes
pub record TellsFault (asked : Read Asking) (text : List ℕ) (old new : Option Standing) : Type 0 where
  pub fault : RunFault
  pub not_memory : fault ≢ Memory
  pub is : IsFaultOfAsked asked fault
  pub told : text ≡ fault_text fault
  pub same : new ≡ old

-- what a line asks for is answered, or its fault is told
abbrev pub AnswersAsked : Read Asking → List ℕ → Option Standing → Option Standing → Type 0
AnswersAsked asked text old new = RespondsTo asked text old new ⊎ TellsFault asked text old new

-- the line is answered, in an envelope where it came in one
pub record AnswersLine (line : Line) (text : List ℕ) (old new : Option Standing) : Type 0 where
  pub inner : List ℕ
  pub answers : AnswersAsked line.asked inner old new
  pub told : text ≡ framed line.frame inner

-- the first line is answered, where no session is open: an opening as it is, by what it opens alone
pub record AnswersFirst (line : Line) (text : List ℕ) (new : Option Standing) : Type 0 where
  pub answers : AnswersLine line text None new
  pub opens : line.frame ≡ Opening → RespondsTo line.asked text None new

-- a line has no answer: all is as it was, or what it asks for is done, and only the text is lost
abbrev pub LosesLine : Line → Option Standing → Option Standing → Type 0
LosesLine line old new = (new ≡ old) ⊎ ((text : List ℕ) × AnswersAsked line.asked text old new)

-- the first line is an opening as it is, and it has this fault
pub record IsBadOpening (line : Line) (fault : RunFault) : Type 0 where
  pub frame : line.frame ≡ Opening
  pub is : IsFaultOfAsked line.asked fault
