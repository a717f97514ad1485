-- What a session reads and writes.
use Rattle.std.specs.Prelude.{◌≡◌, ◌⊎◌, ◌<◌, ◌≤◌, ℕ, List, [], ◌∷◌, ◌++◌, length, false, true, Option}
use Rattle.std.specs.Io.KnownBytes.{Appends, Consumes, IsAtEnd, Keeps}
use Rattle.topo_script.specs.Sessions.{line_of}
use Rattle.topo_io.specs.declared.fault.RunFault.{RunFault}
use Rattle.topo_io.specs.declared.fault.RunFault.TheVariants.{Memory, Script, BadLimits, Price, Load, Graph, NoSeat, Mismatch}
use Rattle.topo_io.specs.declared.fault.RunFault.TheVariants.{WrongReply, WrongPicture, ReadFault, WriteFault}
use Rattle.topo_session.specs.Answers.{AnswersFirst, AnswersLine, IsBadOpening}
use Rattle.topo_session.specs.Standings.{HasLegalHistory, Standing}
use Rattle.topo_serve.specs.Lines.{BeginsWith, closed, first_line, lines_of}
use Rattle.topo_serve.specs.Taking.{ReadsNoFeed}

-- ---- Lines and their answers

-- each line is answered by the text beside it, and they lead from where the session stood to where it stands
abbrev pub AreAnswered : List (List ℕ) → List (List ℕ) → Option Standing → Option Standing → Type 0
AreAnswered [] [] old new = new ≡ old
AreAnswered [] (text ∷ texts) old new = ⊥
AreAnswered (line ∷ lines) [] old new = ⊥
AreAnswered (line ∷ lines) (text ∷ texts) old new =
    (next : Option Standing) × AnswersLine (line_of false line) text old next × AreAnswered lines texts next new

-- ---- Sessions

-- The first line and each of the others is answered by the text beside it: the first where no session is open. However many
-- openings there are, the history of the last is legal from its start.
pub record IsSession (lines texts : List (List ℕ)) : Type 0 where
  pub first : List ℕ
  pub others : List (List ℕ)
  pub is_first : lines ≡ first ∷ others
  pub text : List ℕ
  pub answers : List (List ℕ)
  pub are_texts : texts ≡ text ∷ answers
  pub begun : Option Standing
  pub begins : AnswersFirst (line_of true first) text begun
  pub standing : Option Standing
  pub answered : AreAnswered others answers begun standing
  pub legal : HasLegalHistory standing

-- ---- What a session reads

-- the lines are the first of what was read, and each was read to its end
abbrev pub AreRead : List ℕ → Option (List ℕ) → List (List ℕ) → Type 0
AreRead input left lines = BeginsWith input lines ⊎ (IsAtEnd left × (lines ≡ lines_of input))

-- the first line was read to its end, or further than a line may reach
abbrev pub IsFirstRead : List ℕ → Option (List ℕ) → Type 0
IsFirstRead input left = BeginsWith input (first_line input ∷ []) ⊎ (IsAtEnd left ⊎ (268435456 < length (first_line input)))

-- What was read begins with an opening that is none: this is its first fault. No more was read than 268,435,457 bytes,
-- which is one byte more than a line may have, and the 8192 of one call of read.
pub record OpensNone (old_left new_left : Option (List ℕ)) (fault : RunFault) : Type 0 where
  pub input : List ℕ
  pub consumed : Consumes old_left new_left input
  pub whole : IsFirstRead input new_left
  pub first : IsBadOpening (line_of true (first_line input)) fault
  pub few : length input ≤ 268443649

-- ---- What a session writes

-- all that could be read was read, and each of its lines is answered
pub record IsServed (old_left new_left old_held new_held : Option (List ℕ)) : Type 0 where
  pub input : List ℕ
  pub consumed : Consumes old_left new_left input
  pub whole : IsAtEnd new_left
  pub texts : List (List ℕ)
  pub session : IsSession (lines_of input) texts
  pub written : Appends old_held new_held (closed texts)

-- the first lines of what was read are answered, and no others
pub record IsCutShort (old_left new_left old_held new_held : Option (List ℕ)) : Type 0 where
  pub input : List ℕ
  pub consumed : Consumes old_left new_left input
  pub lines : List (List ℕ)
  pub are_read : AreRead input new_left lines
  pub texts : List (List ℕ)
  pub session : IsSession lines texts
  pub written : Appends old_held new_held (closed texts)

-- the texts are written, but of the last only a part, from its beginning
pub record AppendsAllButLast (old new : Option (List ℕ)) (texts : List (List ℕ)) : Type 0 where
  pub given : List (List ℕ)
  pub last : List ℕ
  pub are_texts : texts ≡ given ++ last ∷ []
  pub part : List ℕ
  pub rest : List ℕ
  pub split : last ++ 10 ∷ [] ≡ part ++ rest
  pub appended : Appends old new (closed given ++ part)

-- the first lines of what was read have these answers, and of the last answer only a part is written
pub record IsPartlyServed (old_left new_left old_held new_held : Option (List ℕ)) : Type 0 where
  pub input : List ℕ
  pub consumed : Consumes old_left new_left input
  pub lines : List (List ℕ)
  pub are_read : AreRead input new_left lines
  pub texts : List (List ℕ)
  pub session : IsSession lines texts
  pub written : AppendsAllButLast old_held new_held texts

-- A fault of the first line is its first one, and then nothing is written. If the reader fails, the answers so far are written:
-- none, if no line feed was read. If a call is out of memory, they are written too, or none is. If the writer fails, of the last
-- one a part is written.
abbrev pub ServeFailsBy : RunFault → Option (List ℕ) → Option (List ℕ) → Option (List ℕ) → Option (List ℕ) → Type 0
ServeFailsBy Memory old_left new_left old_held new_held = Keeps old_held new_held ⊎ IsCutShort old_left new_left old_held new_held
ServeFailsBy (Script fault) old_left new_left old_held new_held = OpensNone old_left new_left (Script fault) × Keeps old_held new_held
ServeFailsBy BadLimits old_left new_left old_held new_held = OpensNone old_left new_left BadLimits × Keeps old_held new_held
ServeFailsBy (Price fault) old_left new_left old_held new_held = OpensNone old_left new_left (Price fault) × Keeps old_held new_held
ServeFailsBy (Load fault) old_left new_left old_held new_held = OpensNone old_left new_left (Load fault) × Keeps old_held new_held
ServeFailsBy (Graph fault) old_left new_left old_held new_held = ⊥
ServeFailsBy NoSeat old_left new_left old_held new_held = ⊥
ServeFailsBy (Mismatch list i) old_left new_left old_held new_held = ⊥
ServeFailsBy (WrongReply i) old_left new_left old_held new_held = ⊥
ServeFailsBy WrongPicture old_left new_left old_held new_held = ⊥
ServeFailsBy ReadFault old_left new_left old_held new_held =
    (ReadsNoFeed old_left new_left × Keeps old_held new_held) ⊎ IsCutShort old_left new_left old_held new_held
ServeFailsBy WriteFault old_left new_left old_held new_held = IsPartlyServed old_left new_left old_held new_held
