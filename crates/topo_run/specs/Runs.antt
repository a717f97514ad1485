-- What a run writes.
use Rattle.std.specs.Prelude.{◌≡◌, ℕ, List, [], ◌∷◌, ◌++◌, Option, Ok, ⊤}
use Rattle.std.specs.Io.KnownBytes.{Appends, Keeps}
use Rattle.topo_core.specs.declared.limits.Limits.{Limits}
use Rattle.topo_core.specs.History.{IsRun}
use Rattle.topo_script.specs.declared.script_forms.TheConstants.{MAX_SCRIPT_BYTES}
use Rattle.topo_script.specs.declared.scripts.Script.{Script}
use Rattle.topo_script.specs.declared.reports.Report.{Report}
use Rattle.topo_script.specs.Reads.{IsFirstFault}
use Rattle.topo_script.specs.Scripts.{script_of}
use Rattle.topo_script.specs.ReportTexts.{report_text}
use Rattle.topo_run.specs.Working.{IsOfRun}
use Rattle.topo_io.specs.declared.fault.RunFault.{RunFault}
use Rattle.topo_io.specs.declared.fault.RunFault.TheVariants.{Memory, Script as OfScript, BadLimits, Price, Load, Graph, NoSeat}
use Rattle.topo_io.specs.declared.fault.RunFault.TheVariants.{Mismatch, WrongReply, WrongPicture, ReadFault, WriteFault}
use Rattle.topo_io.specs.Reading.{HasFailed, ReaderState, Spells, SpellsNone}
use Rattle.topo_io.specs.Settings.{IsSound, IsUnsound, priced, start_of}
use Rattle.topo_io.specs.Writing.{AppendsPart}

-- ---- What a run makes

-- the report is that of a run of the script's lists from its start, under its limits and at its prices
pub record IsReportOf (script : Script) (report : Report) : Type 0 where
  pub limits : Limits
  pub sound : IsSound script.limits script.prices script.start limits
  pub same_limits : report.limits ≡ script.limits
  pub same_prices : report.prices ≡ script.prices
  pub same_start : report.start ≡ start_of script.start
  pub run : IsRun (priced script.prices) limits (start_of script.start) script.workers report.history report.picture

-- the text is that of such a report, with a line feed
pub record IsRunLine (script : Script) (text : List ℕ) : Type 0 where
  pub report : Report
  pub made : IsReportOf script report
  pub line : text ≡ report_text report ++ 10 ∷ []

-- the limits, the prices and the start of the script are without fault
pub record IsSoundScript (script : Script) : Type 0 where
  pub limits : Limits
  pub sound : IsSound script.limits script.prices script.start limits

-- What is told of a script: the first of its limits, its prices and its start that is at fault. If none is, what the run of
-- its lists is at fault of: several have no place for one of them, or the receipt of a command differs, which is named by the
-- places of its list and of the command in it. That it does differ is not said.
abbrev pub FailsRun : Script → RunFault → Type 0
FailsRun script Memory = ⊤
FailsRun script (OfScript fault) = ⊥
FailsRun script BadLimits = IsUnsound script.limits script.prices script.start BadLimits
FailsRun script (Price fault) = IsUnsound script.limits script.prices script.start (Price fault)
FailsRun script (Load fault) = IsUnsound script.limits script.prices script.start (Load fault)
FailsRun script (Graph fault) = ⊥
FailsRun script NoSeat = IsSoundScript script × IsOfRun script.workers NoSeat
FailsRun script (Mismatch list i) = IsSoundScript script × IsOfRun script.workers (Mismatch list i)
FailsRun script (WrongReply i) = ⊥
FailsRun script WrongPicture = ⊥
FailsRun script ReadFault = ⊥
FailsRun script WriteFault = ⊥

-- ---- What a run makes of bytes

-- the bytes spell a script, and the text is that of a report of its run
pub record IsLineOfBytes (bytes text : List ℕ) : Type 0 where
  pub script : Script
  pub asked : script_of bytes ≡ Ok script
  pub shown : IsRunLine script text

-- the bytes spell a script whose run has this fault
pub record IsFailingScript (bytes : List ℕ) (fault : RunFault) : Type 0 where
  pub script : Script
  pub asked : script_of bytes ≡ Ok script
  pub fails : FailsRun script fault

-- what is told of bytes: the first fault of reading them, and then of the run of the script
abbrev pub IsFaultOfBytes : List ℕ → RunFault → Type 0
IsFaultOfBytes bytes Memory = ⊤
IsFaultOfBytes bytes (OfScript fault) = IsFirstFault (script_of bytes) fault
IsFaultOfBytes bytes BadLimits = IsFailingScript bytes BadLimits
IsFaultOfBytes bytes (Price fault) = IsFailingScript bytes (Price fault)
IsFaultOfBytes bytes (Load fault) = IsFailingScript bytes (Load fault)
IsFaultOfBytes bytes (Graph fault) = ⊥
IsFaultOfBytes bytes NoSeat = IsFailingScript bytes NoSeat
IsFaultOfBytes bytes (Mismatch list i) = IsFailingScript bytes (Mismatch list i)
IsFaultOfBytes bytes (WrongReply i) = ⊥
IsFaultOfBytes bytes WrongPicture = ⊥
IsFaultOfBytes bytes ReadFault = ⊥
IsFaultOfBytes bytes WriteFault = ⊥

-- ---- What a run reads and writes

-- what was read is this script
abbrev pub SpellsScript : Option (List ℕ) → Option (List ℕ) → Script → Type 0
SpellsScript = Spells script_of MAX_SCRIPT_BYTES

-- what was read is a script whose run has this fault
pub record AsksInVain (old_left new_left : Option (List ℕ)) (fault : RunFault) : Type 0 where
  pub script : Script
  pub asked : SpellsScript old_left new_left script
  pub fails : FailsRun script fault

-- what was read is a script, and the text of the report of a run of it is written
pub record IsDone (old_left new_left old_held new_held : Option (List ℕ)) : Type 0 where
  pub script : Script
  pub asked : SpellsScript old_left new_left script
  pub line : List ℕ
  pub shown : IsRunLine script line
  pub written : Appends old_held new_held line

-- what was read is a script, and a part of the text of the report of a run of it is written, from its beginning
pub record IsPartlyDone (old_left new_left old_held new_held : Option (List ℕ)) : Type 0 where
  pub script : Script
  pub asked : SpellsScript old_left new_left script
  pub line : List ℕ
  pub shown : IsRunLine script line
  pub written : AppendsPart old_held new_held line

-- A fault is that reading has failed, or the first one of what was read, and then nothing is written, but where the writer
-- failed: then what was read has no fault.
abbrev pub FailsBy : RunFault → ReaderState → ReaderState → Option (List ℕ) → Option (List ℕ) → Type 0
FailsBy Memory old new old_held new_held = Keeps old_held new_held
FailsBy (OfScript fault) old new old_held new_held = SpellsNone script_of MAX_SCRIPT_BYTES old.left new.left fault × Keeps old_held new_held
FailsBy BadLimits old new old_held new_held = AsksInVain old.left new.left BadLimits × Keeps old_held new_held
FailsBy (Price fault) old new old_held new_held = AsksInVain old.left new.left (Price fault) × Keeps old_held new_held
FailsBy (Load fault) old new old_held new_held = AsksInVain old.left new.left (Load fault) × Keeps old_held new_held
FailsBy (Graph fault) old new old_held new_held = ⊥
FailsBy NoSeat old new old_held new_held = AsksInVain old.left new.left NoSeat × Keeps old_held new_held
FailsBy (Mismatch list i) old new old_held new_held = AsksInVain old.left new.left (Mismatch list i) × Keeps old_held new_held
FailsBy (WrongReply i) old new old_held new_held = ⊥
FailsBy WrongPicture old new old_held new_held = ⊥
FailsBy ReadFault old new old_held new_held = HasFailed MAX_SCRIPT_BYTES old new × Keeps old_held new_held
FailsBy WriteFault old new old_held new_held = IsPartlyDone old.left new.left old_held new_held
