-- What a replay of a report says.
use Rattle.std.specs.Prelude.{◌≢◌, ℕ, List, [], ◌∷◌, ◌++◌, codes, decimal, length, Option, Some, Ok, ◌≡◌, ⊤}
use Rattle.std.specs.Io.KnownBytes.{Appends, Keeps}
use Rattle.topo_core.specs.declared.rows.Rows.{Rows}
use Rattle.topo_core.specs.declared.limits.Limits.{Limits}
use Rattle.topo_core.specs.History.{IsLegal, Replays}
use Rattle.topo_book.specs.Faults.{IsFirstWrong}
use Rattle.topo_script.specs.Reads.{IsFirstFault}
use Rattle.topo_script.specs.Scripts.{report_of}
use Rattle.topo_script.specs.declared.reports.Report.{Report}
use Rattle.topo_io.specs.declared.fault.RunFault.{RunFault}
use Rattle.topo_io.specs.declared.fault.RunFault.TheVariants.{Memory, Script, BadLimits, Price, Load, Graph, NoSeat, Mismatch}
use Rattle.topo_io.specs.declared.fault.RunFault.TheVariants.{WrongReply, WrongPicture, ReadFault, WriteFault}
use Rattle.topo_io.specs.Reading.{HasFailed, ReaderState, Spells, SpellsNone}
use Rattle.topo_io.specs.Settings.{IsSound, IsUnsound, priced}
use Rattle.topo_io.specs.Writing.{AppendsPart}

-- ---- What is true of a report

-- its limits are limits, its prices may stand in a table, and its start is a picture under these limits
abbrev pub IsSoundReport : Report → Limits → Type 0
IsSoundReport report limits = IsSound report.limits report.prices (Some report.start) limits

-- at its prices its history leads by steps from its start to these rows
abbrev pub LeadsTo : Report → Limits → Rows → Type 0
LeadsTo report limits rows = Replays (priced report.prices) limits report.start report.history rows

-- its history is legal, and the replay of it is its picture
pub record IsTrueReport (report : Report) : Type 0 where
  pub limits : Limits
  pub sound : IsSoundReport report limits
  pub replayed : LeadsTo report limits report.picture

-- ---- What is at fault with a report

-- its history is not legal, and entry i is the first whose reply is not the one due
pub record HasWrongReply (report : Report) (i : ℕ) : Type 0 where
  pub limits : Limits
  pub sound : IsSoundReport report limits
  pub first : IsFirstWrong (priced report.prices) limits report.start report.history i
  pub illegal : IsLegal (priced report.prices) limits report.start report.history → ⊥

-- its history is legal, and the replay of it has other rows than its picture
pub record HasWrongPicture (report : Report) : Type 0 where
  pub limits : Limits
  pub sound : IsSoundReport report limits
  pub rows : Rows
  pub replayed : LeadsTo report limits rows
  pub other : rows ≢ report.picture

-- what is told of a report: the first of its limits, its prices, its start, its replies and its picture that is at fault
abbrev pub IsUntrue : Report → RunFault → Type 0
IsUntrue report (WrongReply i) = HasWrongReply report i
IsUntrue report WrongPicture = HasWrongPicture report
IsUntrue report fault = IsUnsound report.limits report.prices (Some report.start) fault

-- ---- What a replay makes of bytes

-- the line that says how many calls were carried out again, with its line feed
abbrev pub calls_line : ℕ → List ℕ
calls_line n = codes "replayed " ++ (decimal n ++ (codes " calls" ++ 10 ∷ []))

-- the bytes spell a true report, and the line says how many calls it has
pub record TellsCalls (bytes line : List ℕ) : Type 0 where
  pub report : Report
  pub spelled : report_of bytes ≡ Ok report
  pub legal : IsTrueReport report
  pub told : line ≡ calls_line (length report.history)

-- the bytes spell a report with this fault after reading
pub record IsUntrueReport (bytes : List ℕ) (fault : RunFault) : Type 0 where
  pub report : Report
  pub spelled : report_of bytes ≡ Ok report
  pub untrue : IsUntrue report fault

-- what is told of bytes: the first fault of reading them, and then of the report
abbrev pub TellsUntrue : List ℕ → RunFault → Type 0
TellsUntrue bytes Memory = ⊤
TellsUntrue bytes (Script fault) = IsFirstFault (report_of bytes) fault
TellsUntrue bytes BadLimits = IsUntrueReport bytes BadLimits
TellsUntrue bytes (Price fault) = IsUntrueReport bytes (Price fault)
TellsUntrue bytes (Load fault) = IsUntrueReport bytes (Load fault)
TellsUntrue bytes (Graph fault) = ⊥
TellsUntrue bytes NoSeat = ⊥
TellsUntrue bytes (Mismatch list i) = ⊥
TellsUntrue bytes (WrongReply i) = IsUntrueReport bytes (WrongReply i)
TellsUntrue bytes WrongPicture = IsUntrueReport bytes WrongPicture
TellsUntrue bytes ReadFault = ⊥
TellsUntrue bytes WriteFault = ⊥

-- ---- What a replay reads and writes

-- what was read spells this report
abbrev pub Reports : Option (List ℕ) → Option (List ℕ) → Report → Type 0
Reports = Spells report_of 268435456

-- what was read is a report with this fault after reading
pub record ReportsUntruly (old_left new_left : Option (List ℕ)) (fault : RunFault) : Type 0 where
  pub report : Report
  pub reported : Reports old_left new_left report
  pub untrue : IsUntrue report fault

-- what was read is a report whose history is legal and leads to its picture, and the line with the number of its calls
-- is written
pub record IsReplayed (old_left new_left old_held new_held : Option (List ℕ)) : Type 0 where
  pub report : Report
  pub reported : Reports old_left new_left report
  pub legal : IsTrueReport report
  pub written : Appends old_held new_held (calls_line (length report.history))

-- what was read is such a report, and a part of the line with the number of its calls is written, from its beginning
pub record IsPartlyReplayed (old_left new_left old_held new_held : Option (List ℕ)) : Type 0 where
  pub report : Report
  pub reported : Reports old_left new_left report
  pub legal : IsTrueReport report
  pub written : AppendsPart old_held new_held (calls_line (length report.history))

-- A fault is that reading has failed, or the first one of what was read, and then nothing is written, but where the writer
-- failed: then what was read has no fault.
abbrev pub ReplayFailsBy : RunFault → ReaderState → ReaderState → Option (List ℕ) → Option (List ℕ) → Type 0
ReplayFailsBy Memory old new old_held new_held = Keeps old_held new_held
ReplayFailsBy (Script fault) old new old_held new_held = SpellsNone report_of 268435456 old.left new.left fault × Keeps old_held new_held
ReplayFailsBy BadLimits old new old_held new_held = ReportsUntruly old.left new.left BadLimits × Keeps old_held new_held
ReplayFailsBy (Price fault) old new old_held new_held = ReportsUntruly old.left new.left (Price fault) × Keeps old_held new_held
ReplayFailsBy (Load fault) old new old_held new_held = ReportsUntruly old.left new.left (Load fault) × Keeps old_held new_held
ReplayFailsBy (Graph fault) old new old_held new_held = ⊥
ReplayFailsBy NoSeat old new old_held new_held = ⊥
ReplayFailsBy (Mismatch list i) old new old_held new_held = ⊥
ReplayFailsBy (WrongReply i) old new old_held new_held = ReportsUntruly old.left new.left (WrongReply i) × Keeps old_held new_held
ReplayFailsBy WrongPicture old new old_held new_held = ReportsUntruly old.left new.left WrongPicture × Keeps old_held new_held
ReplayFailsBy ReadFault old new old_held new_held = HasFailed 268435456 old new × Keeps old_held new_held
ReplayFailsBy WriteFault old new old_held new_held = IsPartlyReplayed old.left new.left old_held new_held
