-- What the command reads and writes.
use Rattle.std.specs.Prelude.{◌≡◌, ◌⊎◌, ℕ, List, Option, Ok}
use Rattle.std.specs.Io.KnownBytes.{Appends, Keeps}
use Rattle.topo_script.specs.Graphs.{graph_of}
use Rattle.topo_script.specs.Reads.{IsFirstFault}
use Rattle.topo_script.specs.declared.graphs.GraphAsked.{GraphAsked}
use Rattle.topo_io.specs.declared.fault.RunFault.{RunFault}
use Rattle.topo_io.specs.declared.fault.RunFault.TheVariants.{Memory, Script, Price, Graph, ReadFault, WriteFault}
use Rattle.topo_io.specs.Reading.{HasFailed, ReaderState, Spells, SpellsNone}
use Rattle.topo_io.specs.Writing.{AppendsPart}
use Rattle.topo_planarize.specs.Answers.{HasNoAnswer, IsAnswerTo, answer_line}
use Rattle.topo_planarize.specs.Ways.{TellsWay}
use Rattle.topo_planarize.specs.declared.answers.Answer.{Answer}

-- ---- What is made of bytes

-- the bytes spell a graph, and the line is an answer; on the way it is told how far it is, if that was asked for
pub record IsPlanarizedBy (bytes line : List ℕ) (old_told new_told : Option (List ℕ)) : Type 0 where
  pub asked : GraphAsked
  pub spelled : graph_of bytes ≡ Ok asked
  pub answer : Answer
  pub answers : IsAnswerTo asked answer
  pub line_is : line ≡ answer_line answer
  pub way : TellsWay asked.progress old_told new_told

-- the bytes spell a graph that has no answer
pub record HasNone (bytes : List ℕ) (fault : RunFault) (old_told new_told : Option (List ℕ)) : Type 0 where
  pub asked : GraphAsked
  pub spelled : graph_of bytes ≡ Ok asked
  pub none : HasNoAnswer asked fault
  pub way : TellsWay asked.progress old_told new_told

-- the bytes spell a graph, and on the way it is told how far it is, if that was asked for
pub record TellsOfGraph (bytes : List ℕ) (old_told new_told : Option (List ℕ)) : Type 0 where
  pub asked : GraphAsked
  pub spelled : graph_of bytes ≡ Ok asked
  pub way : TellsWay asked.progress old_told new_told

-- what is told of bytes: the first fault of reading them, and then of the graph
abbrev pub IsUnplanarized : List ℕ → RunFault → Option (List ℕ) → Option (List ℕ) → Type 0
IsUnplanarized bytes Memory old_told new_told = Keeps old_told new_told ⊎ TellsOfGraph bytes old_told new_told
IsUnplanarized bytes (Script fault) old_told new_told = IsFirstFault (graph_of bytes) fault × Keeps old_told new_told
IsUnplanarized bytes (Price fault) old_told new_told = HasNone bytes (Price fault) old_told new_told
IsUnplanarized bytes (Graph fault) old_told new_told = HasNone bytes (Graph fault) old_told new_told
IsUnplanarized bytes _ old_told new_told = ⊥

-- ---- What the command reads and writes

-- what was read spells a graph, and the line of an answer was written
pub record IsPlanarized (old_left new_left old_held new_held old_told new_told : Option (List ℕ)) : Type 0 where
  pub asked : GraphAsked
  pub spelled : Spells graph_of 268435456 old_left new_left asked
  pub answer : Answer
  pub answers : IsAnswerTo asked answer
  pub written : Appends old_held new_held (answer_line answer)
  pub way : TellsWay asked.progress old_told new_told

-- what was read spells a graph, and a part of the line of an answer was written, from its beginning
pub record IsPartlyPlanarized (old_left new_left old_held new_held old_told new_told : Option (List ℕ)) : Type 0 where
  pub asked : GraphAsked
  pub spelled : Spells graph_of 268435456 old_left new_left asked
  pub answer : Answer
  pub answers : IsAnswerTo asked answer
  pub written : AppendsPart old_held new_held (answer_line answer)
  pub way : TellsWay asked.progress old_told new_told

-- what was read spells a graph, and on the way it is told how far it is, if that was asked for
pub record TellsOfRead (old_left new_left old_told new_told : Option (List ℕ)) : Type 0 where
  pub asked : GraphAsked
  pub spelled : Spells graph_of 268435456 old_left new_left asked
  pub way : TellsWay asked.progress old_told new_told

-- what was read spells a graph that has no answer
pub record ReadsNone (old_left new_left old_told new_told : Option (List ℕ)) (fault : RunFault) : Type 0 where
  pub asked : GraphAsked
  pub spelled : Spells graph_of 268435456 old_left new_left asked
  pub none : HasNoAnswer asked fault
  pub way : TellsWay asked.progress old_told new_told

-- A fault is that reading has failed, or the first one of what was read, and then nothing is written, but where the writer
-- failed: then a part of an answer is.
abbrev pub PlanarizeFailsBy : RunFault → ReaderState → ReaderState → (old_held new_held old_told new_told : Option (List ℕ)) → Type 0
PlanarizeFailsBy Memory old new old_held new_held old_told new_told =
    Keeps old_held new_held × (Keeps old_told new_told ⊎ TellsOfRead old.left new.left old_told new_told)
PlanarizeFailsBy (Script fault) old new old_held new_held old_told new_told =
    SpellsNone graph_of 268435456 old.left new.left fault × Keeps old_held new_held × Keeps old_told new_told
PlanarizeFailsBy (Price fault) old new old_held new_held old_told new_told =
    ReadsNone old.left new.left old_told new_told (Price fault) × Keeps old_held new_held
PlanarizeFailsBy (Graph fault) old new old_held new_held old_told new_told =
    ReadsNone old.left new.left old_told new_told (Graph fault) × Keeps old_held new_held
PlanarizeFailsBy ReadFault old new old_held new_held old_told new_told =
    HasFailed 268435456 old new × Keeps old_held new_held × Keeps old_told new_told
PlanarizeFailsBy WriteFault old new old_held new_held old_told new_told =
    IsPartlyPlanarized old.left new.left old_held new_held old_told new_told
PlanarizeFailsBy _ old new old_held new_held old_told new_told = ⊥
