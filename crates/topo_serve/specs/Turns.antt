-- What the turns of a session read and write: in each a line is read and answered.
use Rattle.std.specs.Prelude.{◌≡◌, ℕ, Bool, true, false, List, [], ◌∷◌, ◌++◌, Option}
use Rattle.std.specs.Io.KnownBytes.{Appends, Consumes, IsAtEnd, Keeps}
use Rattle.topo_script.specs.Sessions.{line_of}
use Rattle.topo_io.specs.declared.fault.RunFault.{RunFault}
use Rattle.topo_io.specs.declared.fault.RunFault.TheVariants.{Memory, ReadFault, WriteFault}
use Rattle.topo_io.specs.Writing.{AppendsPart}
use Rattle.topo_session.specs.Answers.{AnswersFirst, AnswersLine, IsBadOpening}
use Rattle.topo_session.specs.Standings.{Standing}
use Rattle.topo_serve.specs.Lines.{ArePlain, IsPlain, closed, lines_of}
use Rattle.topo_serve.specs.Sessions.{AppendsAllButLast, AreAnswered, AreRead, OpensNone}
use Rattle.topo_serve.specs.Taking.{Consumed, OverUnless, ReadsNoFeed, Takes, feed_if}

-- what the reader has left, what was read ahead of it, and what the writer holds
pub record Streams : Type 0 where
  pub left : Option (List ℕ)
  pub ahead : List ℕ
  pub held : Option (List ℕ)

abbrev pub streams : Option (List ℕ) → List ℕ → Option (List ℕ) → Streams
streams left ahead held = record { left = left; ahead = ahead; held = held }

-- ---- One turn

-- the line is answered, and the answer is written with a line feed
pub record IsAnsweredBy (line : List ℕ) (old_held new_held : Option (List ℕ)) (old new : Option Standing) : Type 0 where
  pub text : List ℕ
  pub answers : AnswersLine (line_of false line) text old new
  pub written : Appends old_held new_held (text ++ 10 ∷ [])

-- the line is answered, but only a part of the answer is written
pub record IsCutBy (line : List ℕ) (old_held new_held : Option (List ℕ)) (old : Option Standing) : Type 0 where
  pub text : List ℕ
  pub new : Option Standing
  pub answers : AnswersLine (line_of false line) text old new
  pub written : AppendsPart old_held new_held (text ++ 10 ∷ [])

-- what holds where a line was taken, and where none was: without a line feed an empty line is none
abbrev pub OfLine : Bool → List ℕ → Type 0 → Type 0 → Type 0
OfLine true line some none = some
OfLine false [] some none = none
OfLine false (b ∷ line) some none = some

-- nothing changes
abbrev pub Stays : Option (List ℕ) → Option (List ℕ) → Option Standing → Option Standing → Type 0
Stays old_held new_held old new = (new ≡ old) × Keeps old_held new_held

-- a line is taken and answered, or there is none
pub record IsTurn (old new : Streams) (from to : Option Standing) (has_feed : Bool) : Type 0 where
  pub line : List ℕ
  pub plain : IsPlain line
  pub takes : Takes old.left new.left old.ahead new.ahead (line ++ feed_if has_feed)
  pub over : OverUnless has_feed new.left new.ahead
  pub told : OfLine has_feed line (IsAnsweredBy line old.held new.held from to) (Stays old.held new.held from to)

-- a line is taken, but only a part of its answer is written
pub record BreaksOff (old new : Streams) (from : Option Standing) : Type 0 where
  pub has_feed : Bool
  pub line : List ℕ
  pub plain : IsPlain line
  pub takes : Takes old.left new.left old.ahead new.ahead (line ++ feed_if has_feed)
  pub over : OverUnless has_feed new.left new.ahead
  pub told : OfLine has_feed line (IsCutBy line old.held new.held from) ⊥

-- nothing is written, whatever was read
abbrev pub Stops : Streams → Streams → Type 0
Stops old new = Consumed old.left new.left × Keeps old.held new.held

abbrev pub TurnFailsBy : RunFault → Streams → Streams → Option Standing → Type 0
TurnFailsBy Memory old new from = Stops old new
TurnFailsBy ReadFault old new from = Stops old new
TurnFailsBy WriteFault old new from = BreaksOff old new from
TurnFailsBy _ old new from = ⊥

-- what is told of a text that is to be written
abbrev pub WriteFailsBy : RunFault → Option (List ℕ) → Option (List ℕ) → List ℕ → Type 0
WriteFailsBy Memory old_held new_held text = Keeps old_held new_held
WriteFailsBy WriteFault old_held new_held text = AppendsPart old_held new_held text
WriteFailsBy _ old_held new_held text = ⊥

-- what is told of the answer to a line
abbrev pub AnswerFailsBy : RunFault → List ℕ → Option (List ℕ) → Option (List ℕ) → Option Standing → Type 0
AnswerFailsBy Memory line old_held new_held from = Keeps old_held new_held
AnswerFailsBy WriteFault line old_held new_held from = IsCutBy line old_held new_held from
AnswerFailsBy _ line old_held new_held from = ⊥

-- what is told of the answer to a line, if it is one
abbrev pub LineFailsBy : RunFault → Bool → List ℕ → Option (List ℕ) → Option (List ℕ) → Option Standing → Type 0
LineFailsBy Memory has_feed line old_held new_held from = Keeps old_held new_held
LineFailsBy WriteFault has_feed line old_held new_held from = OfLine has_feed line (IsCutBy line old_held new_held from) ⊥
LineFailsBy _ has_feed line old_held new_held from = ⊥

-- ---- All turns

-- lines were taken, each with its line feed, and are answered
pub record HasServed (old now : Streams) (from to : Option Standing) : Type 0 where
  pub lines : List (List ℕ)
  pub plain : ArePlain lines
  pub takes : Takes old.left now.left old.ahead now.ahead (closed lines)
  pub texts : List (List ℕ)
  pub answered : AreAnswered lines texts from to
  pub written : Appends old.held now.held (closed texts)

-- all that could be read was read, and each of its lines is answered
pub record ServesAll (old new : Streams) (from : Option Standing) : Type 0 where
  pub read : List ℕ
  pub consumed : Consumes old.left new.left read
  pub whole : IsAtEnd new.left
  pub texts : List (List ℕ)
  pub to : Option Standing
  pub answered : AreAnswered (lines_of (old.ahead ++ read)) texts from to
  pub written : Appends old.held new.held (closed texts)

-- the first lines are answered, and no others
pub record ServesSome (old new : Streams) (from : Option Standing) : Type 0 where
  pub read : List ℕ
  pub consumed : Consumes old.left new.left read
  pub lines : List (List ℕ)
  pub are_read : AreRead (old.ahead ++ read) new.left lines
  pub texts : List (List ℕ)
  pub to : Option Standing
  pub answered : AreAnswered lines texts from to
  pub written : Appends old.held new.held (closed texts)

-- the first lines are answered, and of the last answer only a part is written
pub record ServesPart (old new : Streams) (from : Option Standing) : Type 0 where
  pub read : List ℕ
  pub consumed : Consumes old.left new.left read
  pub lines : List (List ℕ)
  pub are_read : AreRead (old.ahead ++ read) new.left lines
  pub texts : List (List ℕ)
  pub to : Option Standing
  pub answered : AreAnswered lines texts from to
  pub written : AppendsAllButLast old.held new.held texts

abbrev pub LinesFailBy : RunFault → Streams → Streams → Option Standing → Type 0
LinesFailBy Memory old new from = ServesSome old new from
LinesFailBy ReadFault old new from = ServesSome old new from
LinesFailBy WriteFault old new from = ServesPart old new from
LinesFailBy _ old new from = ⊥

-- ---- The first line, and all turns behind it

-- the first line is answered, and the answer is written with a line feed
pub record IsBegunBy (line : List ℕ) (old_held new_held : Option (List ℕ)) (to : Option Standing) : Type 0 where
  pub text : List ℕ
  pub answers : AnswersFirst (line_of true line) text to
  pub written : Appends old_held new_held (text ++ 10 ∷ [])

-- the first line is answered, but only a part of the answer is written
pub record IsPartlyBegunBy (line : List ℕ) (old_held new_held : Option (List ℕ)) : Type 0 where
  pub text : List ℕ
  pub to : Option Standing
  pub answers : AnswersFirst (line_of true line) text to
  pub written : AppendsPart old_held new_held (text ++ 10 ∷ [])

-- what is told of the answer to the first line
abbrev pub FirstLineFailsBy : RunFault → List ℕ → Option (List ℕ) → Option (List ℕ) → Type 0
FirstLineFailsBy Memory line old_held new_held = Keeps old_held new_held
FirstLineFailsBy WriteFault line old_held new_held = IsPartlyBegunBy line old_held new_held
FirstLineFailsBy fault line old_held new_held = IsBadOpening (line_of true line) fault × Keeps old_held new_held

-- the first line is taken and answered
pub record Begins (old new : Streams) (to : Option Standing) (has_feed : Bool) : Type 0 where
  pub line : List ℕ
  pub plain : IsPlain line
  pub takes : Takes old.left new.left [] new.ahead (line ++ feed_if has_feed)
  pub over : OverUnless has_feed new.left new.ahead
  pub text : List ℕ
  pub answers : AnswersFirst (line_of true line) text to
  pub written : Appends old.held new.held (text ++ 10 ∷ [])

-- the first line is taken, but only a part of its answer is written
pub record BeginsPart (old new : Streams) : Type 0 where
  pub has_feed : Bool
  pub line : List ℕ
  pub plain : IsPlain line
  pub takes : Takes old.left new.left [] new.ahead (line ++ feed_if has_feed)
  pub over : OverUnless has_feed new.left new.ahead
  pub text : List ℕ
  pub to : Option Standing
  pub answers : AnswersFirst (line_of true line) text to
  pub written : AppendsPart old.held new.held (text ++ 10 ∷ [])

-- what is told of the first line
abbrev pub FirstFailsBy : RunFault → Streams → Streams → Type 0
FirstFailsBy Memory old new = Keeps old.held new.held
FirstFailsBy ReadFault old new = ReadsNoFeed old.left new.left × Keeps old.held new.held
FirstFailsBy WriteFault old new = BeginsPart old new
FirstFailsBy fault old new = OpensNone old.left new.left fault × Keeps old.held new.held
