-- What a check of a picture writes.
use Rattle.std.specs.Prelude.{ℕ, List, [], ◌∷◌, ◌++◌, codes, decimal, Option, Ok, ◌≡◌, ⊤}
use Rattle.std.specs.Io.KnownBytes.{Appends, Keeps}
use Rattle.topo_core.specs.declared.rows.Rows.{Rows}
use Rattle.topo_core.specs.declared.limits.Limits.{Limits}
use Rattle.topo_picture.specs.declared.counts.Counts.{Counts}
use Rattle.topo_rows.specs.declared.load.LoadFault.{LoadFault}
use Rattle.topo_rows.specs.Loading.{FailsFirst}
use Rattle.topo_rows.specs.Shown.{IsPicture}
use Rattle.topo_picture.specs.Totals.{AreCountsOf}
use Rattle.topo_script.specs.Reads.{IsFirstFault}
use Rattle.topo_script.specs.RowForms.{rows_of}
use Rattle.topo_script.specs.Scripts.{greatest_limits}
use Rattle.topo_io.specs.declared.fault.RunFault.{RunFault}
use Rattle.topo_io.specs.declared.fault.RunFault.TheVariants.{Memory, Script, BadLimits, Price, Load, Graph, NoSeat, Mismatch}
use Rattle.topo_io.specs.declared.fault.RunFault.TheVariants.{WrongReply, WrongPicture, ReadFault, WriteFault}
use Rattle.topo_io.specs.Limiting.{AreLimits}
use Rattle.topo_io.specs.Reading.{HasFailed, ReaderState, Spells, SpellsNone}
use Rattle.topo_io.specs.Writing.{AppendsPart}

-- the line that says how large a picture is, with its line feed
abbrev pub size_line : Counts → List ℕ
size_line counts =
    codes "lawful vertices=" ++ (decimal counts.vertices ++ (codes " crossings=" ++ (decimal counts.crossings ++ (codes " edges=" ++ (decimal counts.edges
    ++ (codes " segments=" ++ (decimal counts.segments ++ (codes " faces=" ++ (decimal counts.faces ++ 10 ∷ [])))))))))

-- ---- What a check makes of bytes

-- the bytes spell a lawful picture under the greatest limits, and the line says how large it is
pub record IsSizeOfBytes (bytes line : List ℕ) : Type 0 where
  pub rows : Rows
  pub spelled : rows_of bytes ≡ Ok rows
  pub limits : Limits
  pub greatest : AreLimits greatest_limits limits
  pub lawful : IsPicture limits rows
  pub counts : Counts
  pub counted : AreCountsOf rows counts
  pub told : line ≡ size_line counts

-- the bytes spell rows that are no picture under the greatest limits: this is the first test that they fail
pub record IsUnlawfulAt (bytes : List ℕ) (fault : LoadFault) : Type 0 where
  pub rows : Rows
  pub spelled : rows_of bytes ≡ Ok rows
  pub limits : Limits
  pub greatest : AreLimits greatest_limits limits
  pub first : FailsFirst limits rows fault

-- what is told of bytes: the first fault of reading them, and then of loading the rows
abbrev pub IsUnlawful : List ℕ → RunFault → Type 0
IsUnlawful bytes Memory = ⊤
IsUnlawful bytes (Script fault) = IsFirstFault (rows_of bytes) fault
IsUnlawful bytes BadLimits = ⊥
IsUnlawful bytes (Price fault) = ⊥
IsUnlawful bytes (Load fault) = IsUnlawfulAt bytes fault
IsUnlawful bytes (Graph fault) = ⊥
IsUnlawful bytes NoSeat = ⊥
IsUnlawful bytes (Mismatch list i) = ⊥
IsUnlawful bytes (WrongReply i) = ⊥
IsUnlawful bytes WrongPicture = ⊥
IsUnlawful bytes ReadFault = ⊥
IsUnlawful bytes WriteFault = ⊥

-- ---- What a check reads and writes

-- what was read spells a lawful picture under the greatest limits
pub record IsLawfulInput (old_left new_left : Option (List ℕ)) (rows : Rows) : Type 0 where
  pub spelled : Spells rows_of 268435456 old_left new_left rows
  pub limits : Limits
  pub greatest : AreLimits greatest_limits limits
  pub lawful : IsPicture limits rows

-- what was read spells rows that are no picture under the greatest limits: this is the first test that they fail
pub record IsUnlawfulInput (old_left new_left : Option (List ℕ)) (fault : LoadFault) : Type 0 where
  pub rows : Rows
  pub spelled : Spells rows_of 268435456 old_left new_left rows
  pub limits : Limits
  pub greatest : AreLimits greatest_limits limits
  pub first : FailsFirst limits rows fault

-- what was read is a lawful picture, and the line that says how large it is was written
pub record IsChecked (old_left new_left old_held new_held : Option (List ℕ)) : Type 0 where
  pub rows : Rows
  pub input : IsLawfulInput old_left new_left rows
  pub counts : Counts
  pub counted : AreCountsOf rows counts
  pub written : Appends old_held new_held (size_line counts)

-- what was read is a lawful picture, and a part of the line that says how large it is was written, from its beginning
pub record IsPartlyChecked (old_left new_left old_held new_held : Option (List ℕ)) : Type 0 where
  pub rows : Rows
  pub input : IsLawfulInput old_left new_left rows
  pub counts : Counts
  pub counted : AreCountsOf rows counts
  pub written : AppendsPart old_held new_held (size_line counts)

-- A fault is that reading has failed, or the first one of what was read, and then nothing is written, but where the writer
-- failed: then what was read is a lawful picture.
abbrev pub CheckFailsBy : RunFault → ReaderState → ReaderState → Option (List ℕ) → Option (List ℕ) → Type 0
CheckFailsBy Memory old new old_held new_held = Keeps old_held new_held
CheckFailsBy (Script fault) old new old_held new_held = SpellsNone rows_of 268435456 old.left new.left fault × Keeps old_held new_held
CheckFailsBy BadLimits old new old_held new_held = ⊥
CheckFailsBy (Price fault) old new old_held new_held = ⊥
CheckFailsBy (Load fault) old new old_held new_held = IsUnlawfulInput old.left new.left fault × Keeps old_held new_held
CheckFailsBy (Graph fault) old new old_held new_held = ⊥
CheckFailsBy NoSeat old new old_held new_held = ⊥
CheckFailsBy (Mismatch list i) old new old_held new_held = ⊥
CheckFailsBy (WrongReply i) old new old_held new_held = ⊥
CheckFailsBy WrongPicture old new old_held new_held = ⊥
CheckFailsBy ReadFault old new old_held new_held = HasFailed 268435456 old new × Keeps old_held new_held
CheckFailsBy WriteFault old new old_held new_held = IsPartlyChecked old.left new.left old_held new_held
