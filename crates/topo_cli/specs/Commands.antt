-- What each command of the program does.
use Rattle.std.specs.Prelude.{ℕ, List, Option}
use Rattle.std.specs.Io.KnownBytes.{Keeps}
use Rattle.topo_io.specs.declared.fault.RunFault.{RunFault}
use Rattle.topo_io.specs.Reading.{ReaderState}
use Rattle.topo_cli.specs.declared.Verb.{Verb}
use Rattle.topo_cli.specs.declared.Verb.TheVariants.{Run, Replay, Check, Serve, Planarize}
use Rattle.topo_run.specs.Runs.{FailsBy, IsDone}
use Rattle.topo_check.specs.Checks.{CheckFailsBy, IsChecked}
use Rattle.topo_check.specs.Replays.{IsReplayed, ReplayFailsBy}
use Rattle.topo_serve.specs.Sessions.{IsServed, ServeFailsBy}
use Rattle.topo_planarize.specs.Planarizing.{IsPlanarized, PlanarizeFailsBy}

-- What was read has the answer that was written, as the command has it. On the way nothing is told, but by a search that is asked
-- for it.
abbrev pub IsAnswered : Verb → ReaderState → ReaderState → (old_held new_held old_told new_told : Option (List ℕ)) → Type 0
IsAnswered Run old new old_held new_held old_told new_told = IsDone old.left new.left old_held new_held × Keeps old_told new_told
IsAnswered Replay old new old_held new_held old_told new_told = IsReplayed old.left new.left old_held new_held × Keeps old_told new_told
IsAnswered Check old new old_held new_held old_told new_told = IsChecked old.left new.left old_held new_held × Keeps old_told new_told
IsAnswered Serve old new old_held new_held old_told new_told = IsServed old.left new.left old_held new_held × Keeps old_told new_told
IsAnswered Planarize old new old_held new_held old_told new_told = IsPlanarized old.left new.left old_held new_held old_told new_told

-- the command has no answer, by this fault
abbrev pub CommandFailsBy : Verb → RunFault → ReaderState → ReaderState → (old_held new_held old_told new_told : Option (List ℕ)) → Type 0
CommandFailsBy Run fault old new old_held new_held old_told new_told = FailsBy fault old new old_held new_held × Keeps old_told new_told
CommandFailsBy Replay fault old new old_held new_held old_told new_told = ReplayFailsBy fault old new old_held new_held × Keeps old_told new_told
CommandFailsBy Check fault old new old_held new_held old_told new_told = CheckFailsBy fault old new old_held new_held × Keeps old_told new_told
CommandFailsBy Serve fault old new old_held new_held old_told new_told = ServeFailsBy fault old.left new.left old_held new_held × Keeps old_told new_told
CommandFailsBy Planarize fault old new old_held new_held old_told new_told = PlanarizeFailsBy fault old new old_held new_held old_told new_told
