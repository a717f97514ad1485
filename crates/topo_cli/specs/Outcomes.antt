-- How the program ends, and what it writes to standard output and standard error.
use Rattle.std.specs.Prelude.{◌≡◌, ◌≢◌, ◌⊎◌, ℕ, List, [], ◌∷◌, Option, Some, IsFalse, IsTrue, codes, true}
use Rattle.std.specs.Io.KnownBytes.{Appends, Keeps}
use Rattle.std.specs.Prelude.{string_bytes, ⊤}
use Rattle.clap.specs.Kinds.{IsAmong}
use Rattle.clap.specs.declared.error.kind.ErrorKind.TheVariants.{DisplayVersion}
use Rattle.topo_io.specs.declared.fault.RunFault.{RunFault}
use Rattle.topo_io.specs.declared.fault.RunFault.TheVariants.{Memory as NoMemory, WriteFault}
use Rattle.topo_io.specs.Reading.{ReaderState}
use Rattle.topo_io.specs.Statuses.{fault_line, status_of}
use Rattle.topo_io.specs.Writing.{AppendsPart}
use Rattle.topo_cli.specs.declared.Verb.{Verb}
use Rattle.topo_cli.specs.Words.{asked_verb, word_faults}
use Rattle.topo_cli.specs.declared.program.Asked.{Asked}
use Rattle.topo_cli.specs.declared.program.Asked.TheVariants.{Command, Version}
use Rattle.topo_cli.specs.declared.program.Outcome.{Outcome}
use Rattle.topo_cli.specs.declared.program.Unread.{Unread}
use Rattle.topo_cli.specs.declared.program.Unread.TheVariants.{Refused, Memory}
use Rattle.topo_cli.specs.declared.program.WordsFault.{WordsFault}
use Rattle.topo_cli.specs.declared.program.WordsFault.TheVariants.{NotText, Memory as WordsMemory}
use Rattle.topo_cli.specs.Commands.{CommandFailsBy, IsAnswered}

-- ---- The words

-- the words are a command line of the program, and ask for this command
pub record IsCommand (words : List (List ℕ)) (verb : Verb) : Type 0 where
  pub whole : word_faults words ≡ []
  pub asked : asked_verb words ≡ Some verb

-- the words ask for the version
abbrev pub AskVersion : List (List ℕ) → Type 0
AskVersion words = IsAmong DisplayVersion (word_faults words)

-- what the words ask for
abbrev pub IsAsked : List (List ℕ) → Asked → Type 0
IsAsked words (Command verb) = IsCommand words verb
IsAsked words Version = AskVersion words

-- the words are no command line of the program, or ask for help; and not for the version alone
pub record AreRefused (words : List (List ℕ)) : Type 0 where
  pub faulty : word_faults words ≢ []
  pub unasked : word_faults words ≢ DisplayVersion ∷ []

-- why words ask for nothing that the program does
abbrev pub IsUnread : List (List ℕ) → Unread → Type 0
IsUnread words (Refused text) = AreRefused words
IsUnread words Memory = ⊤

-- ---- Standard error

-- where standard error took what it was given, this text and nothing else was added; else a beginning of the text
pub record IsToldBy (text : List ℕ) (outcome : Outcome) (old_told new_told : Option (List ℕ)) : Type 0 where
  pub whole : IsTrue outcome.is_told → Appends old_told new_told text
  pub part : IsFalse outcome.is_told → AppendsPart old_told new_told text

-- the program ends by a fault: with its status, and its line
pub record EndsBy (fault : RunFault) (outcome : Outcome) (old_told new_told : Option (List ℕ)) : Type 0 where
  pub status : outcome.status ≡ status_of fault
  pub line : IsToldBy (fault_line fault) outcome old_told new_told

-- the words are turned down with this text
pub record TurnsDown (text : List ℕ) (outcome : Outcome) (old_told new_told : Option (List ℕ)) : Type 0 where
  pub status : outcome.status ≡ 2
  pub told : IsToldBy text outcome old_told new_told

-- what is said of words that ask for nothing
abbrev pub Tells : Unread → Outcome → Option (List ℕ) → Option (List ℕ) → Type 0
Tells (Refused text) outcome old_told new_told = TurnsDown (string_bytes text) outcome old_told new_told
Tells Memory outcome old_told new_told = EndsBy NoMemory outcome old_told new_told

-- what is said of words that cannot be read
abbrev pub Refuses : WordsFault → Outcome → Option (List ℕ) → Option (List ℕ) → Type 0
Refuses NotText outcome old_told new_told = TurnsDown (codes "planar: the words of the command line are not UTF-8\n") outcome old_told new_told
Refuses WordsMemory outcome old_told new_told = EndsBy NoMemory outcome old_told new_told

-- ---- The version

-- the line that says the version
abbrev pub version_line : List ℕ
version_line = codes "planar 0.5.0\n"

-- standard output has just the version more, and standard error nothing
pub record IsVersionTold (outcome : Outcome) (old_held new_held old_told new_told : Option (List ℕ)) : Type 0 where
  pub status : outcome.status ≡ 0
  pub written : Appends old_held new_held version_line
  pub silent : Keeps old_told new_told
  pub told : outcome.is_told ≡ true

-- standard output failed before it had the whole version, and this fault is told
pub record IsVersionLost (outcome : Outcome) (old_held new_held old_told new_told : Option (List ℕ)) : Type 0 where
  pub part : AppendsPart old_held new_held version_line
  pub ends : EndsBy WriteFault outcome old_told new_told

abbrev pub TellsVersion : Outcome → Option (List ℕ) → Option (List ℕ) → Option (List ℕ) → Option (List ℕ) → Type 0
TellsVersion outcome old_held new_held old_told new_told =
    IsVersionTold outcome old_held new_held old_told new_told ⊎ IsVersionLost outcome old_held new_held old_told new_told

-- ---- A command

-- the command is done: standard output has just its answer more, and standard error what is told on the way
pub record IsCarriedOut (verb : Verb) (outcome : Outcome) (old new : ReaderState) (old_held new_held old_told new_told : Option (List ℕ)) : Type 0 where
  pub status : outcome.status ≡ 0
  pub answered : IsAnswered verb old new old_held new_held old_told new_told
  pub told : outcome.is_told ≡ true

-- the command has no answer, by a fault that is told behind what was told on the way
pub record IsGivenUp (verb : Verb) (outcome : Outcome) (old new : ReaderState) (old_held new_held old_told new_told : Option (List ℕ)) : Type 0 where
  pub fault : RunFault
  pub way_told : Option (List ℕ)
  pub fails : CommandFailsBy verb fault old new old_held new_held old_told way_told
  pub ends : EndsBy fault outcome way_told new_told

abbrev pub CarriesOut : Verb → Outcome → ReaderState → ReaderState → Option (List ℕ) → Option (List ℕ) → Option (List ℕ) → Option (List ℕ) → Type 0
CarriesOut verb outcome old new old_held new_held old_told new_told =
    IsCarriedOut verb outcome old new old_held new_held old_told new_told
    ⊎ IsGivenUp verb outcome old new old_held new_held old_told new_told

-- ---- The program

-- the words are a command line, and the command that they ask for is carried out
pub record PerformsCommand (words : List (List ℕ)) (outcome : Outcome) (old new : ReaderState) (old_held new_held old_told new_told : Option (List ℕ)) : Type 0 where
  pub verb : Verb
  pub command : IsCommand words verb
  pub carried : CarriesOut verb outcome old new old_held new_held old_told new_told

-- the words ask for the version, and it is told: nothing is read
pub record PerformsVersion (words : List (List ℕ)) (outcome : Outcome) (old new : ReaderState) (old_held new_held old_told new_told : Option (List ℕ)) : Type 0 where
  pub asked : AskVersion words
  pub untouched : new ≡ old
  pub tells : TellsVersion outcome old_held new_held old_told new_told

-- The words are none, and are turned down with a text, or there is no memory to read them. Nothing is read, and nothing
-- is written to standard output.
pub record PerformsNone (words : List (List ℕ)) (outcome : Outcome) (old new : ReaderState) (old_held new_held old_told new_told : Option (List ℕ)) : Type 0 where
  pub unread : Unread
  pub is_unread : IsUnread words unread
  pub told : Tells unread outcome old_told new_told
  pub untouched : new ≡ old
  pub unwritten : Keeps old_held new_held

abbrev pub Performs : List (List ℕ) → Outcome → ReaderState → ReaderState → Option (List ℕ) → Option (List ℕ) → Option (List ℕ)
    → Option (List ℕ) → Type 0
Performs words outcome old new old_held new_held old_told new_told =
    PerformsCommand words outcome old new old_held new_held old_told new_told
    ⊎ (PerformsVersion words outcome old new old_held new_held old_told new_told
    ⊎ PerformsNone words outcome old new old_held new_held old_told new_told)
