-- What is told of bytes is told of what was read and written.
use Rattle.std.proofs.Common.{◌≡◌, ℕ, List, Ok, Option, subst}
use Rattle.std.specs.Io.KnownBytes.{Appends, Keeps}
use Rattle.topo_script.specs.Reads.{Gives, Read}
use Rattle.topo_io.specs.declared.fault.RunFault.{RunFault}
use Rattle.topo_io.specs.declared.fault.RunFault.TheVariants.{Memory, Script, BadLimits, Price, Load}
use Rattle.topo_io.specs.declared.fault.RunFault.TheVariants.{WrongReply, WrongPicture}
use Rattle.topo_io.specs.Reading.{IsRead, ReaderState}
use Rattle.topo_io.specs.Writing.{AppendsPart, IsOfWriting}
use Rattle.topo_io.proofs.Interface.{appends_so, by_writing, part_so}
use Rattle.topo_check.specs.Checks.{CheckFailsBy, IsChecked, IsLawfulInput, IsSizeOfBytes, IsUnlawful}
use Rattle.topo_check.specs.Replays.{IsUntrueReport, ReplayFailsBy, ReportsUntruly, TellsUntrue}

module _ (old_held new_held : Option (List ℕ)) where
  module _ (old_left new_left : Option (List ℕ)) (bytes : List ℕ) (read : IsRead 268435456 old_left new_left bytes) where
    lawful : (line : List ℕ) (told : IsSizeOfBytes bytes line) → IsLawfulInput old_left new_left told.rows
    lawful line told = record {
      spelled = record { input = bytes; read = read; spelled = told.spelled };
      limits = told.limits;
      greatest = told.greatest;
      lawful = told.lawful;
    }

    pub checked : (line text : List ℕ) → IsSizeOfBytes bytes line → text ≡ line → Appends old_held new_held text → IsChecked old_left new_left old_held new_held
    checked line text told same written = record {
      rows = told.rows;
      input = lawful line told;
      counts = told.counts;
      counted = told.counted;
      written = appends_so old_held new_held line _ told.told (appends_so old_held new_held text line same written);
    }

  module _ (old new : ReaderState) (bytes : List ℕ) (read : IsRead 268435456 old.left new.left bytes) where
    -- ---- A replay

    untrue : (fault : RunFault) → IsUntrueReport bytes fault → ReportsUntruly old.left new.left fault
    untrue fault is = record { report = is.report; reported = record { input = bytes; read = read; spelled = is.spelled }; untrue = is.untrue }

    pub replay_fails : (fault : RunFault) → TellsUntrue bytes fault → Keeps old_held new_held → ReplayFailsBy fault old new old_held new_held
    replay_fails Memory is kept = kept
    replay_fails (Script fault) is kept = (record { input = bytes; read = read; first = is }, kept)
    replay_fails BadLimits is kept = (untrue BadLimits is, kept)
    replay_fails (Price fault) is kept = (untrue (Price fault) is, kept)
    replay_fails (Load fault) is kept = (untrue (Load fault) is, kept)
    replay_fails (WrongReply i) is kept = (untrue (WrongReply i) is, kept)
    replay_fails WrongPicture is kept = (untrue WrongPicture is, kept)
    replay_fails _ is kept = absurd is

    -- ---- A check

    pub check_fails : (fault : RunFault) → IsUnlawful bytes fault → Keeps old_held new_held → CheckFailsBy fault old new old_held new_held
    check_fails Memory is kept = kept
    check_fails (Script fault) is kept = (record { input = bytes; read = read; first = is }, kept)
    check_fails (Load fault) is kept = (
      record {
        rows = is.rows;
        spelled = record { input = bytes; read = read; spelled = is.spelled };
        limits = is.limits;
        greatest = is.greatest;
        first = is.first;
      },
      kept,
    )
    check_fails _ is kept = absurd is

    pub check_unwritten : (fault : RunFault) (line text : List ℕ) → IsSizeOfBytes bytes line → text ≡ line → AppendsPart old_held new_held text
        → IsOfWriting fault → CheckFailsBy fault old new old_held new_held
    check_unwritten fault line text told same written is = by_writing (λ f. CheckFailsBy f old new old_held new_held) fault is (record {
      rows = told.rows;
      input = lawful old.left new.left bytes read line told;
      counts = told.counts;
      counted = told.counted;
      written = part_so old_held new_held line _ told.told (part_so old_held new_held text line same written);
    })
